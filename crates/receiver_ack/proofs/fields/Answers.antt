-- `receiver_ack::fields` meets its contract: the count of the missing numbers decides, and the 256th of them stands at index 255.
use Rattle.std.proofs.Common.{◌≡◌, length, arith}
use mathlib.Core.Path.{refl, ◌∙◌}
use borrow.Author.Tests.{le-leb, lt-leb}
use Rattle.receiver_ack.specs.Missing.{missing_of}
use Rattle.receiver_ack.specs.Fields.{fields_from, ack_nacks, acked_through, ack_flags, ack_delay}
use Rattle.receiver_ack.proofs.Ways.{nacks_count, through_few, through_more, some_256th}
use Rattle.receiver_ack.proofs.fields.Goals.{Joined-count-le-MAX_NACKS, then-count-le-MAX_NACKS, else-count-le-MAX_NACKS}
use Rattle.receiver_ack.proofs.fields.Goals as goal

-- how many NACKs there are, and ack-through
cut : (c : Joined-count-le-MAX_NACKS) → let m = missing_of c.args.r.now in
    c.if-count-le-MAX_NACKS.nacks ≡ (length (ack_nacks m), record { 0 = acked_through m c.args.r.now.head.highest.0 })
cut c =
    let highest = c.args.r.now.head.highest in
    let m = missing_of c.args.r.now in
    let d = c.list_missing-count.ensures in
    elim c.if-count-le-MAX_NACKS.branch [
      | then-count-le-MAX_NACKS w ↦ let n : c.list_missing-count.result ≡ length (ack_nacks m) = omega (arith, d.value, nacks_count m) in
          let t : highest ≡ record { 0 = acked_through m highest.0 } = rw (through_few m highest.0 (omega arith)) refl in
          w.nacks-is ∙ (λ k. (n k, t k))
      | else-count-le-MAX_NACKS w ↦ let n : 255 ≡ length (ack_nacks m) = omega (arith, d.value, nacks_count m) in
          rw (← n, through_more m c.args.missing.now highest.0 (omega arith), ← d.missing_after) w.nacks-is
    ]

pub overflow_sub-nacks : goal.overflow_sub-nacks
overflow_sub-nacks c =
    let r = c.args.r.now in
    let d = c.list_missing-count.ensures in
    rw d.missing_after (some_256th r.head.next.0 r.head.highest.0 r.marks c.args.missing.now (omega arith))

pub returns-then-count-ge-MAX_NACKS-clause-value : goal.returns-then-count-ge-MAX_NACKS-clause-value
unfolding fields_from
returns-then-count-ge-MAX_NACKS-clause-value c =
    let m = missing_of c.args.r.now in
    let e = cut (goal.at.returns-then-count-ge-MAX_NACKS-clause-value c).Joined-count-le-MAX_NACKS in
    let f : 64 ≡ ack_flags m = rw (le-leb 255 (length m) (omega arith)) refl in
    let d : 60001 ≡ ack_delay m = rw (le-leb 255 (length m) (omega arith)) refl in
    λ k. record { nacks = (e k).0; ack_through = (e k).1; flags = f k; delay = d k }

pub returns-else-count-ge-MAX_NACKS-clause-value : goal.returns-else-count-ge-MAX_NACKS-clause-value
unfolding fields_from
returns-else-count-ge-MAX_NACKS-clause-value c =
    let m = missing_of c.args.r.now in
    let e = cut (goal.at.returns-else-count-ge-MAX_NACKS-clause-value c).Joined-count-le-MAX_NACKS in
    let f : 0 ≡ ack_flags m = rw (lt-leb 255 (length m) (omega arith)) refl in
    let d : 0 ≡ ack_delay m = rw (lt-leb 255 (length m) (omega arith)) refl in
    λ k. record { nacks = (e k).0; ack_through = (e k).1; flags = f k; delay = d k }
