-- Of the seven exactly one holds, for every number in every state that keeps the rules, and it is the one that is given. Assumes nothing.
use Prim.Native.Nat.{ℕ, ◌+◌, ◌≤◌, ◌<◌}
use mathlib.Core.Path.{◌≡◌, sym, ◌∙◌, ap}
use mathlib.Core.Bool.{true, false, true≢false}
use native.Mathlib.Decide.{ℕ_discrete, dec_le, dec_lt}
use native.Mathlib.Omega.{arith}
use borrow.Author.Tests.{ne_eqb}
use Rattle.terms.specs.declared.SeqNo.{SeqNo}
use Rattle.terms.proofs.Laws.{case}
use Rattle.receiver_state.specs.Slots.{mark_of}
use Rattle.receiver_state.specs.Rules.{rules_of, slot_fits}
use Rattle.receiver_calls.specs.Meaning.{is_missing}
use Rattle.receiver_state.specs.declared.Receiver.{Receiver}
use Rattle.receiver_state.proofs.Facts.{Ruled, ruled}
use Rattle.receiver_why.specs.Reasons.{Case, below_start, was_taken, is_ready, behind_gap, never_came, not_yet_seen, beyond_span, case_of, said_case, smallest_missing, why_of}
use Rattle.receiver_why.specs.Stands.{IsHeld, Holds, ExactlyOneCase}
use Rattle.receiver_why.proofs.Cases.{lacks, below_is, taken_is, beyond_is, unseen_is, never_is, gap_is, ready_is, none_below, is_smallest, at_most, missing_of_lem}

module _ (r : Receiver) (f : Ruled r) (n : ℕ) where
  -- a case that holds is the one that is told
  pub found : (c : Case) → Holds r n c → case_of r n ≡ c
  found below_start h = below_is r n h
  found was_taken h = taken_is r n h.0 h.1
  found is_ready h =
      let i = h.0 in
      let above : n ≤ smallest_missing r =
      case
      (λ (a : n ≤ smallest_missing r). a)
      (λ (a : n ≤ smallest_missing r → ⊥). absurd (true≢false (sym (is_smallest r f (omega (arith, i.seen))) ∙ h.1 (smallest_missing r) (omega arith))))
      (dec_le n (smallest_missing r)) in
      ready_is r n (omega (arith, f.late, i.new)) i.new (omega (arith, f.far, i.seen)) i.seen (λ z. omega (arith, i.full)) above
  found behind_gap h =
      let i = h.0 in
      gap_is r n (omega (arith, f.late, i.new)) i.new (omega (arith, f.far, i.seen)) i.seen (λ z. omega (arith, i.full))
      (omega (arith, at_most r f h.1.0 h.1.2, h.1.1))
  found never_came h =
      let l = lacks r n h in
      never_is r n (omega (arith, f.late, l.new)) l.new (omega (arith, f.far, l.seen)) l.seen l.free
  found not_yet_seen h = unseen_is r n (omega (arith, f.late, f.low, h.0)) (omega (arith, f.low, h.0)) (omega (arith, h.1)) h.0
  found beyond_span h = beyond_is r n (omega (arith, f.late)) (omega arith) (omega arith)

  -- and one holds
  pub held_one : (c : Case) × Holds r n c
  held_one =
      case
      (λ (a : n ≤ r.head.start.0). (below_start, a))
      (λ (a : n ≤ r.head.start.0 → ⊥).
      case
      (λ (b : n < r.head.next.0). (was_taken, (omega arith, b)))
      (λ (b : n < r.head.next.0 → ⊥).
      case
      (λ (c : r.head.next.0 + 512 ≤ n). (beyond_span, c))
      (λ (c : r.head.next.0 + 512 ≤ n → ⊥).
      case
      (λ (d : r.head.highest.0 < n). (not_yet_seen, (d, omega arith)))
      (λ (d : r.head.highest.0 < n → ⊥).
      case
      (λ (e : mark_of r.marks n ≡ 0). (never_came, missing_of_lem r n (omega arith) (omega arith) e))
      (λ (e : mark_of r.marks n ≡ 0 → ⊥).
      let i : IsHeld r n = record { new = omega arith; seen = omega arith; full = omega (arith, e) } in
      case
      (λ (g : smallest_missing r < n). (behind_gap, (i, (smallest_missing r, g, is_smallest r f (omega arith)))))
      (λ (g : smallest_missing r < n → ⊥). (is_ready, (i, λ m a. none_below r f m (omega arith))))
      (dec_lt (smallest_missing r) n))
      (ℕ_discrete (mark_of r.marks n) 0))
      (dec_lt r.head.highest.0 n))
      (dec_le (r.head.next.0 + 512) n))
      (dec_lt n r.head.next.0))
      (dec_le n r.head.start.0)

-- the theorem
pub exactly_one : (r : Receiver) (number : SeqNo) → rules_of r ≡ true → slot_fits r.head.slot ≡ true → (number.0 ≡ 4294967295 → ⊥) → ExactlyOneCase r number
unfolding why_of
exactly_one r number keeps fits usable =
    let f = ruled r keeps in
    let n = number.0 in
    let one = held_one r f n in
    let is = found r f n one.0 one.1 in
    record {
      the = one.0;
      holds = one.1;
      only = λ c h. sym is ∙ found r f n c h;
      told = simp (keeps, fits, ne_eqb n 4294967295 usable) (ap (said_case r) is);
      smallest = λ e. smallest one.0 one.1 e;
    }
  where
    smallest : (c : Case) → Holds r number.0 c → c ≡ behind_gap → (is_missing r (smallest_missing r) ≡ true) × ((m : ℕ) → m < smallest_missing r → is_missing r m ≡ false)
    smallest below_start h e = let z : ◌≡◌ {A = ℕ} 0 1 = cc in absurd (omega arith)
    smallest was_taken h e = let z : ◌≡◌ {A = ℕ} 0 1 = cc in absurd (omega arith)
    smallest is_ready h e = let z : ◌≡◌ {A = ℕ} 0 1 = cc in absurd (omega arith)
    smallest behind_gap h e =
        let f = ruled r keeps in
        (is_smallest r f (omega (arith, at_most r f h.1.0 h.1.2, h.1.1, h.0.seen)), none_below r f)
    smallest never_came h e = let z : ◌≡◌ {A = ℕ} 0 1 = cc in absurd (omega arith)
    smallest not_yet_seen h e = let z : ◌≡◌ {A = ℕ} 0 1 = cc in absurd (omega arith)
    smallest beyond_span h e = let z : ◌≡◌ {A = ℕ} 0 1 = cc in absurd (omega arith)
