-- The plain acknowledgement, told by its answer and by the packet as our reader reads it: what a run of calls is reasoned with, in place
-- of the definitions' text. Assumes nothing.
use Prim.Native.Nat.{ℕ, ◌*◌, ◌^◌, ◌≤◌, ◌<◌}
use mathlib.Core.Path.{◌≡◌, sym, ◌∙◌}
use mathlib.Core.Bool.{true, false}
use mathlib.Core.List.{List, [], ◌∷◌}
use native.Mathlib.Omega.{arith}
use borrow.Author.Tests.{le-ltb}
use lib.Dec.{ltb, eqb}
use lib.ListN.{length, take, drop}
use lib.Seq.{take_at}
use Rattle.std.proofs.lemmas.Bool.Decides.{nat_tests}
use Rattle.terms.specs.declared.StreamId.{StreamId}
use Rattle.terms.specs.Ladder.{◌when◌else◌}
use Rattle.terms.specs.Lists.{◌at_front_of◌}
use Rattle.terms.proofs.Laws.{and_left}
use Rattle.terms.specs.Answers.{refusal, values}
use Rattle.receiver_state.specs.Rules.{rules_of, slot_fits, sizes_fit}
use Rattle.receiver_calls.specs.Meaning.{Sound}
use Rattle.receiver_state.specs.declared.Receiver.{Receiver}
use Rattle.receiver_ack.specs.Acknowledge.{plain_ack, plain_ack_of, acknowledge_said, acknowledge_of}
use Rattle.receiver_ack.proofs.Ways.{ack_most}
use Rattle.receiver_ack.proofs.Carried.{Carries, acked_reads}

-- THE PACKET

-- The packet never exceeds 1,044 bytes.
pub at_most_1044 : (r : Receiver) (send recv : StreamId) → length (plain_ack_of r send recv) ≤ 1044
at_most_1044 r send recv = ack_most r.head.next.0 r.head.highest.0 r.marks send recv

-- The packet p is, as our reader reads it, the plain ack of the receiver r: exactly these fields and NACKs, no leftover, empty parts.
abbrev pub ReadsAs : Receiver → StreamId → StreamId → List ℕ → Type 0
ReadsAs r send recv p = Carries r send recv 0 [] p

-- A written ack: the state kept the rules and its slot size was in range, the output had room, n is the packet's length, and the packet
-- stands at the output's front.
pub record Written (r : Receiver) (send recv : StreamId) (output : List ℕ) (n : ℕ) : Type 0 where
  pub keeps : rules_of r ≡ true
  pub sized : slot_fits r.head.slot ≡ true
  pub room : length (plain_ack_of r send recv) ≤ length output
  pub long : n ≡ length (plain_ack_of r send recv)
  pub stands : (acknowledge_of r send recv output).output ≡ plain_ack_of r send recv at_front_of output

module _ (r : Receiver) (send recv : StreamId) where
  -- The plain ack of a receiver that keeps the rules reads as that receiver's ack.
  pub plain_ack_reads : rules_of r ≡ true → send.0 < 2 ^ 32 → recv.0 < 2 ^ 32 → ReadsAs r send recv (plain_ack_of r send recv)
  unfolding plain_ack
  plain_ack_reads keeps s t = acked_reads r send recv keeps 0 [] s t (omega arith) (omega arith)

  -- THE CALL

  module _ (output : List ℕ) where
    -- a refusal changes nothing
    pub acknowledge_nothing : (n : ℕ) → (acknowledge_of r send recv output).says ≡ refusal n → (acknowledge_of r send recv output).output ≡ output
    unfolding acknowledge_of
    acknowledge_nothing n e = rw e

    -- a state that breaks the rules is refused with 11, and a slot size out of range with 10
    pub acknowledge_broken : rules_of r ≡ false → (acknowledge_of r send recv output).says ≡ refusal 11
    unfolding acknowledge_of acknowledge_said
    acknowledge_broken e = simp e

    pub acknowledge_unfit : rules_of r ≡ true → slot_fits r.head.slot ≡ false → (acknowledge_of r send recv output).says ≡ refusal 10
    unfolding acknowledge_of acknowledge_said
    acknowledge_unfit e f = simp (e, f)

    -- else its length decides
    pub acknowledge_by_room : rules_of r ≡ true → slot_fits r.head.slot ≡ true
        → (acknowledge_of r send recv output).says ≡ (refusal 7 when ltb (length output) (length (plain_ack_of r send recv)) else values (length (plain_ack_of r send recv) ∷ []))
    unfolding acknowledge_of acknowledge_said
    acknowledge_by_room e f = simp (e, f)

    -- a refused call: with 7 where neither the rules nor the slot size were at fault
    pub acknowledge_fair : rules_of r ≡ true → slot_fits r.head.slot ≡ true → (n : ℕ) → (acknowledge_of r send recv output).says ≡ refusal n → n ≡ 7
    acknowledge_fair e f n h = let room = acknowledge_by_room e f in grind (arith, nat_tests)

    -- so of a state and a store that belong together
    pub acknowledge_sound : (store : List ℕ) → Sound r store → (n : ℕ) → (acknowledge_of r send recv output).says ≡ refusal n → n ≡ 7
    unfolding sizes_fit
    acknowledge_sound store sound n h =
        acknowledge_fair sound.keeps (and_left (slot_fits r.head.slot) (eqb (length store) (512 * r.head.slot)) sound.fits) n h

    -- An output of 1,044 bytes is always enough: the ack is written unless the state is at fault, and is never refused with 7.
    pub acknowledge_enough : rules_of r ≡ true → slot_fits r.head.slot ≡ true → 1044 ≤ length output
        → (acknowledge_of r send recv output).says ≡ values (length (plain_ack_of r send recv) ∷ [])
    acknowledge_enough e f room =
        acknowledge_by_room e f ∙ rw (le-ltb (length output) (length (plain_ack_of r send recv)) (omega (arith, at_most_1044 r send recv)))

    pub acknowledge_never_7 : 1044 ≤ length output → (acknowledge_of r send recv output).says ≡ refusal 7 → ⊥
    unfolding acknowledge_of acknowledge_said
    acknowledge_never_7 room h = let most = at_most_1044 r send recv in grind (arith, nat_tests)

    module _ (n : ℕ) (done : (acknowledge_of r send recv output).says ≡ values (n ∷ [])) where
      pub acknowledge_written : Written r send recv output n
      unfolding acknowledge_of acknowledge_said
      acknowledge_written = record {
        keeps = grind (arith, nat_tests);
        sized = grind (arith, nat_tests);
        room = grind (arith, nat_tests);
        long = grind (arith, nat_tests);
        stands = rw done;
      }

      -- So the first n bytes of the output read as the receiver's ack.
      pub acknowledge_reads : send.0 < 2 ^ 32 → recv.0 < 2 ^ 32 → ReadsAs r send recv (take n (acknowledge_of r send recv output).output)
      acknowledge_reads s t =
          let w = acknowledge_written in
          let p = plain_ack_of r send recv in
          let begins : take n (acknowledge_of r send recv output).output ≡ p = rw w.stands (take_at p (drop (length p) output) n (sym w.long)) in
          rw begins (plain_ack_reads w.keeps s t)
