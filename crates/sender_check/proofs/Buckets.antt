-- Numbers that have remainders of their own by 2,048 are distinct: an equal one would have noted its remainder before. Assumes nothing.
use Prim.Native.Nat.{ℕ, ◌+◌, ◌%◌, ◌≤◌, ◌<◌}
use mathlib.Core.Path.{◌≡◌, refl, sym, ◌∙◌, ap}
use mathlib.Core.Bool.{Bool, true, ◌&&◌, ◌||◌}
use mathlib.Core.List.{List}
use native.Mathlib.Decide.{ℕ_discrete}
use native.Mathlib.Numerals.{add-one}
use native.Mathlib.Omega.{arith}
use borrow.Author.Tests.{eqb-true, ne_eqb}
use lib.Dec.{eqb}
use lib.ListN.{length, get_or, set, take, replicate, length-set, length-take, length-replicate}
use lib.Seq.{get_or-set_same, get_or-set_other, get_or-take}
use Rattle.terms.specs.Lists.{all}
use Rattle.terms.proofs.Laws.{case, and_left, and_right, and_both, all_of, or_right, or_of}
use Rattle.sender_check.specs.Steps.{every, alone_at}
use Rattle.sender_state.specs.Table.{◌!◌, differs}

-- after i turns: the remainders of the first i numbers are noted, and the flag says that none of these numbers but 0 stood before
pub record Spreads (numbers seen : List ℕ) (ok : Bool) (i : ℕ) : Type 0 where
  pub long : length seen ≡ 2048
  pub inside : i ≤ length numbers
  pub noted : (j : ℕ) → j < i → seen ! ((numbers ! j) % 2048) ≡ 1
  pub alone : ok ≡ true → every i (alone_at numbers) ≡ true

module _ (numbers : List ℕ) where
  pub spreads_start : Spreads numbers (replicate 2048 0) true 0
  unfolding every
  spreads_start = record {
    long = length-replicate {A = ℕ} 2048 0;
    inside = omega arith;
    noted = λ j h. absurd (omega arith);
    alone = λ t. refl;
  }

  module _ (seen : List ℕ) (ok : Bool) (i : ℕ) (s : Spreads numbers seen ok i) (below : i < length numbers) where
    abbrev x : ℕ
    x = numbers ! i

    abbrev at : ℕ
    at = x % 2048

    noted_more : (j : ℕ) → j < i + 1 → set seen at 1 ! ((numbers ! j) % 2048) ≡ 1
    noted_more j h =
        let room : at < length seen = omega (arith, s.long) in
        case
        (λ (e : (numbers ! j) % 2048 ≡ at). rw e (get_or-set_same seen at 1 0 room))
        (λ (o : (numbers ! j) % 2048 ≡ at → ⊥).
        let k : j < i = case
        (λ (q : j ≡ i). absurd (o (ap (λ (m : ℕ). (numbers ! m) % 2048) q)))
        (λ (q : j ≡ i → ⊥). omega (arith, q))
        (ℕ_discrete j i) in
        get_or-set_other seen at ((numbers ! j) % 2048) 1 0 o ∙ s.noted j k)
        (ℕ_discrete ((numbers ! j) % 2048) at)

    -- where its remainder is new, so is the number
    new : seen ! at ≡ 0 → all (differs x) (take i numbers) ≡ true
    new z =
        all_of (differs x) (take i numbers)
        (λ k h.
        let k' : k < i = omega (arith, length-take i numbers) in
        let o : get_or (take i numbers) k 0 ≡ x → ⊥ = λ e.
        let same : numbers ! k ≡ x = sym (get_or-take i numbers k 0 k') ∙ e in
        let one : seen ! at ≡ 1 = ap (λ (m : ℕ). seen ! (m % 2048)) (sym same) ∙ s.noted k k' in
        omega (arith, one, z) in
        rw (ne_eqb _ _ o))

    pub spreads_more : Spreads numbers (set seen at 1) (ok && (eqb x 0 || eqb (seen ! at) 0)) (i + 1)
    unfolding every alone_at
    spreads_more = record {
      long = length-set seen at 1 ∙ s.long;
      inside = omega arith;
      noted = noted_more;
      alone = λ t.
          rw add-one
          (and_both (every i (alone_at numbers)) (alone_at numbers i) (s.alone (and_left ok _ t))
          (or_of (eqb x 0) (all (differs x) (take i numbers))
          (λ e. new (eqb-true _ _ (or_right (eqb x 0) (eqb (seen ! at) 0) e (and_right ok (eqb x 0 || eqb (seen ! at) 0) t))))));
    }

  pub spreads_end : (seen : List ℕ) (ok : Bool) (i : ℕ) → Spreads numbers seen ok i → length numbers ≤ i → ok ≡ true → every (length numbers) (alone_at numbers) ≡ true
  spreads_end seen ok i s h t =
      let e : i ≡ length numbers = omega (arith, s.inside) in
      rw e at (s.alone t)
