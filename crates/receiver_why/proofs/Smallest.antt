-- The first of a run of numbers that is not held. Assumes nothing.
use Prim.Native.Nat.{ℕ, zero, suc, ◌+◌, ◌-◌, ◌≤◌, ◌<◌}
use mathlib.Core.Path.{◌≡◌, refl, sym}
use mathlib.Core.List.{List}
use native.Mathlib.Decide.{ℕ_discrete}
use native.Mathlib.Omega.{arith}
use borrow.Author.Tests.{eq-eqb, ne_eqb}
use Rattle.terms.proofs.Laws.{case}
use Rattle.receiver_state.specs.Slots.{mark_of}
use Rattle.receiver_why.specs.Reasons.{first_missing}

-- it lies in the run or just behind it, all before it are held, and it is not held where it lies in the run
pub record First (marks : List ℕ) (first more found : ℕ) : Type 0 where
  pub low : first ≤ found
  pub high : found ≤ first + more
  pub before : (k : ℕ) → first ≤ k → k < found → 1 ≤ mark_of marks k
  pub free : found < first + more → mark_of marks found ≡ 0

pub first_here : (marks : List ℕ) (first more : ℕ) → mark_of marks first ≡ 0 → first_missing marks first (suc more) ≡ first
unfolding first_missing
first_here marks first more z = simp (eq-eqb _ _ z)

pub first_later : (marks : List ℕ) (first more : ℕ) → (mark_of marks first ≡ 0 → ⊥) → first_missing marks first (suc more) ≡ first_missing marks (suc first) more
unfolding first_missing
first_later marks first more z = simp (ne_eqb _ _ z)

pub first_none : (marks : List ℕ) (first : ℕ) → first_missing marks first 0 ≡ first
unfolding first_missing
first_none marks first = refl

later : (marks : List ℕ) (first more found : ℕ) → (mark_of marks first ≡ 0 → ⊥) → First marks (suc first) more found → First marks first (suc more) found
later marks first more found full f = record {
  low = omega (arith, f.low);
  high = omega (arith, f.high);
  before = λ k a b.
      case
      (λ (e : k ≡ first). rw e (omega (arith, full)))
      (λ (n : k ≡ first → ⊥). f.before k (omega (arith, n)) b)
      (ℕ_discrete k first);
  free = λ h. f.free (omega arith);
}

pub first_is : (marks : List ℕ) (first more : ℕ) → First marks first more (first_missing marks first more)
first_is marks first zero = rw (first_none marks first) (record { low = omega arith; high = omega arith; before = λ k a b. absurd (omega arith); free = λ h. absurd (omega arith) })
first_is marks first (suc more) =
    case
    (λ (z : mark_of marks first ≡ 0).
    rw (first_here marks first more z) (record { low = omega arith; high = omega arith; before = λ k a b. absurd (omega arith); free = λ h. z }))
    (λ (z : mark_of marks first ≡ 0 → ⊥). rw (first_later marks first more z) (later marks first more (first_missing marks (suc first) more) z (first_is marks (suc first) more)))
    (ℕ_discrete (mark_of marks first) 0)

-- a step of the search
module _ (marks : List ℕ) (n last : ℕ) where
  pub stop_here : n ≤ last → mark_of marks n ≡ 0 → n ≡ first_missing marks n (last + 1 - n)
  stop_here a z =
      let e : last + 1 - n ≡ suc (last - n) = omega arith in
      sym (rw e (first_here marks n (last - n) z))

  pub go_on : n ≤ last → (mark_of marks n ≡ 0 → ⊥) → first_missing marks (n + 1) (last + 1 - (n + 1)) ≡ first_missing marks n (last + 1 - n)
  go_on a z =
      let e : last + 1 - n ≡ suc (last - n) = omega arith in
      let g : last + 1 - (n + 1) ≡ last - n = omega arith in
      let h : n + 1 ≡ suc n = omega arith in
      rw (e, g, h) (sym (first_later marks n (last - n) z))

  pub past_end : last < n → n ≡ first_missing marks n (last + 1 - n)
  past_end a =
      let e : last + 1 - n ≡ 0 = omega arith in
      sym (rw e (first_none marks n))
