-- What why says agrees with the history: of the seven cases exactly one holds, and each is told by the history alone. It stands on demand 3 and on what is known
-- at the end of a run. Assumes nothing.
use Prim.Native.Nat.{ℕ, ◌≤◌, ◌<◌}
use mathlib.Core.Path.{◌≡◌, sym, subst}
use mathlib.Core.Bool.{true}
use mathlib.Core.List.{List}
use mathlib.Core.Logic.{◌⊎◌, inl, inr, ⊎_elim}
use native.Mathlib.Decide.{dec_lt}
use native.Mathlib.Omega.{arith}
use Rattle.terms.specs.declared.SeqNo.{SeqNo}
use Rattle.terms.proofs.Laws.{case}
use Rattle.receiver_state.specs.Slots.{held_bytes}
use Rattle.receiver_state.specs.Rules.{slot_fits}
use Rattle.receiver_state.specs.declared.Receiver.{Receiver}
use Rattle.receiver_state.proofs.Facts.{Ruled, ruled}
use Rattle.receiver_calls.specs.Meaning.{standing, held}
use Rattle.receiver_calls.proofs.Standings.{is_taken, is_unseen, is_missing_lem, is_held_lem}
use Rattle.receiver_calls.proofs.Laws.{where_is, slot_fits_lem}
use Rattle.receiver_why.specs.Reasons.{Case, below_start, was_taken, is_ready, behind_gap, never_came, not_yet_seen, beyond_span, smallest_missing}
use Rattle.receiver_why.specs.Stands.{IsHeld, Holds, ExactlyOneCase}
use Rattle.receiver_why.proofs.Cases.{lacks, none_below, is_smallest}
use Rattle.receiver_why.proofs.One.{exactly_one}
use Rattle.receiver_why.proofs.Ways.{why_last}
use Rattle.receiver_runs.specs.Runs.{Run, end_of}
use Rattle.receiver_runs.specs.Delivered.{Taken, Held, highest_accepted}
use Rattle.receiver_runs.proofs.Places.{known, nothing_lost}
use Rattle.receiver_why_runs.specs.Agrees.{Agrees, AgreesThroughout}

-- what is held lies from next to highest, and its slot is not free
is_within : (r : Receiver) (store : List ℕ) (n : ℕ) (bytes : List ℕ) → standing r store n ≡ held bytes → IsHeld r n
is_within r store n bytes e =
    where_is r n
    (λ a. let s = is_taken r store n a in let z : ◌≡◌ {A = ℕ} 0 1 = cc in absurd (omega arith))
    (λ a b. let s = is_unseen r store n a b in let z : ◌≡◌ {A = ℕ} 0 1 = cc in absurd (omega arith))
    (λ a b z. let s = is_missing_lem r store n a b z in let z : ◌≡◌ {A = ℕ} 0 1 = cc in absurd (omega arith))
    (λ a b z. record { new = a; seen = b; full = omega (arith, z) })

module _ (run : Run) where
  abbrev r : Receiver
  r = (end_of run).state

  abbrev store : List ℕ
  store = (end_of run).store

  fits : slot_fits r.head.slot ≡ true
  fits = slot_fits_lem r store (known run).sound

  facts : Ruled r
  facts = ruled r (known run).sound.keeps

  module _ (number : SeqNo) (usable : number.0 ≡ 4294967295 → ⊥) where
    abbrev n : ℕ
    n = number.0

    one : ExactlyOneCase r number
    one = exactly_one r number (known run).sound.keeps fits usable

    -- the case that is told is the one that holds
    holds : (c : Case) → one.the ≡ c → Holds r n c
    holds c e = subst (Holds r n) e one.holds

    -- held, with something missing below it or nothing
    told_held : IsHeld r n → (one.the ≡ is_ready) ⊎ (one.the ≡ behind_gap)
    told_held i =
        case
        (λ (g : smallest_missing r < n). inr (one.only behind_gap (i, (smallest_missing r, g, is_smallest r facts (omega (arith, i.seen))))))
        (λ (g : smallest_missing r < n → ⊥). inl (one.only is_ready (i, λ m a. none_below r facts m (omega arith))))
        (dec_lt (smallest_missing r) n)

    held_so : IsHeld r n → Held run n
    held_so i = (held_bytes r.marks r.head.slot store n, is_held_lem r store n i.new i.seen (λ z. omega (arith, i.full)))

    taken_so : Holds r n was_taken → Taken run n
    taken_so h =
        let t = (known run).taken_all n (omega (arith, h.0, (known run).start_is)) h.1 in
        (t.0, t.1)

    pub agreed : Agrees run number
    agreed =
        let k = known run in
        record {
          the = one.the;
          told = one.told;
          below_is = (λ e. omega (arith, holds below_start e, k.start_is), λ h. one.only below_start (omega (arith, k.start_is)));
          taken_is = (
            λ e. taken_so (holds was_taken e),
            λ t. let o = k.taken_only n t.0 t.1 in one.only was_taken (omega (arith, o.0, k.start_is), o.1),
          );
          held_is = (
            λ e. ⊎_elim (λ p. held_so (holds is_ready p).0) (λ p. held_so (holds behind_gap p).0) e,
            λ h. told_held (is_within r store n h.0 h.1),
          );
          missing_is = (
            λ e.
                let h = holds never_came e in
                let l = lacks r n h in
                let a : run.s.0 < n = omega (arith, l.new, k.next_is) in
                let b : n ≤ highest_accepted run = omega (arith, l.seen, k.highest_is) in
                (a, b, ((nothing_lost run).missing_is n a b).0 h),
            λ h. one.only never_came (((nothing_lost run).missing_is n h.0 h.1).1 h.2),
          );
          unseen_is = (
            λ e. let h = holds not_yet_seen e in (omega (arith, h.0, k.highest_is), omega (arith, h.1, k.next_is)),
            λ h. one.only not_yet_seen (omega (arith, h.0, k.highest_is), omega (arith, h.1, k.next_is)),
          );
          beyond_is = (λ e. omega (arith, holds beyond_span e, k.next_is), λ h. one.only beyond_span (omega (arith, k.next_is)));
        }

  -- at the end of every run
  pub agrees_throughout : AgreesThroughout run
  agrees_throughout = record {
    start_kept = (known run).start_is;
    agrees = agreed;
    last_number_is = λ number e. sym (why_last r number (known run).sound.keeps fits e);
  }
