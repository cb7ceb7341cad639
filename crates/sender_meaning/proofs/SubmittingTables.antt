-- A table with one free place filled: where each number stands after it, and how many places bear a mark. Assumes nothing.
use Prim.Native.Nat.{ℕ, zero, suc, ◌≤◌, ◌<◌}
use mathlib.Core.Path.{◌≡◌, refl, sym, ◌∙◌}
use mathlib.Core.List.{List, [], ◌∷◌}
use native.Mathlib.Decide.{ℕ_discrete}
use native.Mathlib.Omega.{arith}
use borrow.Author.Tests.{ne_eqb}
use lib.ListN.{length, set, length-set}
use lib.Seq.{get_or-set_same, get_or-set_other}
use Rattle.terms.proofs.Laws.{case}
use Rattle.sender_state.specs.Table.{◌!◌, count_of, place_of}
use Rattle.sender_state.proofs.Search.{place_is, place_first}

-- a number that stood elsewhere, or nowhere, has the place that it had
pub place_other : (l : List ℕ) (p v n : ℕ) → (l ! p ≡ n → ⊥) → (v ≡ n → ⊥) → place_of (set l p v) n ≡ place_of l n
place_other [] p v n a b = refl
place_other (x ∷ l) zero v n a b = rw (ne_eqb x n a, ne_eqb v n b)
place_other (x ∷ l) (suc p) v n a b = rw (place_other l p v n a b)

-- the new one, which stood nowhere, has the place that was filled
pub place_new : (l : List ℕ) (p v : ℕ) → p < length l → ((i : ℕ) → i < length l → l ! i ≡ v → ⊥) → place_of (set l p v) v ≡ p
place_new l p v h none =
    let q = place_of (set l p v) v in
    let long = length-set l p v in
    let first : q ≤ p = place_first (set l p v) v p (omega arith) (get_or-set_same l p v 0 h) in
    let is : set l p v ! q ≡ v = place_is (set l p v) v (omega arith) in
    case
    (λ (e : q ≡ p). e)
    (λ (o : q ≡ p → ⊥). absurd (none q (omega arith) (sym (get_or-set_other l p q v 0 o) ∙ is)))
    (ℕ_discrete q p)

-- a place that bears another mark before and after it does not count
pub count_kept : (x : ℕ) (l : List ℕ) (p v : ℕ) → (l ! p ≡ x → ⊥) → (v ≡ x → ⊥) → count_of x (set l p v) ≡ count_of x l
count_kept x [] p v a b = refl
count_kept x (y ∷ l) zero v a b = rw (ne_eqb y x a, ne_eqb v x b)
count_kept x (y ∷ l) (suc p) v a b = rw (count_kept x l p v a b)
