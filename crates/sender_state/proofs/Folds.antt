-- The loops over the table, for any test: what one more turn adds to each definition. Assumes nothing.
use Prim.Native.Nat.{ℕ, zero, suc, ◌+◌, ◌≤◌, ◌<◌, min}
use mathlib.Core.Path.{◌≡◌, refl, sym, ◌∙◌, subst}
use mathlib.Core.Bool.{Bool, true, false, cond}
use mathlib.Core.List.{List, [], ◌∷◌, ◌++◌}
use native.Mathlib.Nat.{zero-add, not-suc-le-zero}
use native.Mathlib.Numerals.{add-one}
use native.Mathlib.Decide.{ℕ_discrete, dec_lt}
use native.Mathlib.Omega.{arith}
use borrow.Author.Tests.{eq-eqb, ne_eqb, lt-ltb, le-ltb, ltb-false, eqb-true, eqb-false}
use lib.Dec.{eqb, ltb}
use lib.ListN.{length, get_or, take}
use lib.Seq.{take-suc}
use Rattle.std.specs.Prelude.{Some, None}
use Rattle.std.specs.List.{position, position_or_len}
use Rattle.std.specs.Option.{unwrap_or}
use Rattle.std.proofs.lemmas.List.Recursion.{is_position_or_len}
use Rattle.std.proofs.lemmas.List.Sums.{prefix_len-le-length}
use Rattle.terms.specs.Ladder.{◌when◌else◌}
use Rattle.terms.proofs.Laws.{case}
use Rattle.sender_state.specs.Steps.{candidate_of, least_of, lowest_of}
use Rattle.sender_state.specs.Table.{◌!◌, one_if, count_of, place_of}

-- how many are equal to x
pub count_append : (x : ℕ) (a b : List ℕ) → count_of x (a ++ b) ≡ count_of x a + count_of x b
count_append x [] b = sym (zero-add (count_of x b))
count_append x (y ∷ a) b = rw (count_append x a b) (omega arith)

pub count_more : (x : ℕ) (l : List ℕ) (i : ℕ) → i < length l → count_of x (take (i + 1) l) ≡ count_of x (take i l) + one_if (eqb (get_or l i 0) x)
count_more x l i h = rw (add-one, take-suc l i 0 h, count_append) (omega arith)

-- the place of a number, as the library searches for it
place_as : (l : List ℕ) (n : ℕ) → place_of l n ≡ position_or_len (λ x. eqb x n) l
place_as l n = is_position_or_len (λ l. place_of l n) (λ x. eqb x n) refl (λ x l. either (eqb x n) (place_of l n)) l
  where
    either : (b : Bool) (k : ℕ) → (0 when b else suc k) ≡ cond b 0 (1 + k)
    either true k = refl
    either false k = omega arith

search_inside : (k m : ℕ) → k ≤ m → (b : Bool) → ltb k m ≡ b → unwrap_or (cond b (Some k) None) m ≡ k
search_inside k m h true e = refl
search_inside k m h false e = omega (arith, h, ltb-false k m e)

pub place_position : (l : List ℕ) (n : ℕ) → unwrap_or (position (λ x. eqb x n) l) (length l) ≡ place_of l n
place_position l n =
    let k = position_or_len (λ x. eqb x n) l in
    rw (place_as l n) (search_inside k (length l) (prefix_len-le-length _ l) (ltb k (length l)) refl)

-- the lowest number sought
pub least_more : (numbers marks : List ℕ) (wanted from i low one : ℕ) → low ≡ least_of numbers marks wanted from i
    → one ≡ candidate_of (get_or numbers i 0) (get_or marks i 0) wanted from
    → min low one ≡ least_of numbers marks wanted from (i + 1)
unfolding least_of
least_more numbers marks wanted from i low one e f = rw (add-one, e, f)

pub least_none : (numbers marks : List ℕ) (wanted from : ℕ) → 4294967295 ≡ least_of numbers marks wanted from 0
unfolding least_of
least_none numbers marks wanted from = refl

-- among all the places, and nothing where that is 4,294,967,295
module _ (numbers marks : List ℕ) (wanted from low i : ℕ) (e : low ≡ least_of numbers marks wanted from i) (all : i ≡ 192) where
  pub lowest_none : low ≡ 4294967295 → None ≡ lowest_of numbers marks wanted from
  unfolding lowest_of
  lowest_none h = let f : least_of numbers marks wanted from 192 ≡ 4294967295 = rw all at (sym e ∙ h) in rw f

  pub lowest_some : (low ≡ 4294967295 → ⊥) → Some low ≡ lowest_of numbers marks wanted from
  unfolding lowest_of
  lowest_some h = let f : least_of numbers marks wanted from 192 ≡ low = sym (rw all at e) in rw (f, ne_eqb low 4294967295 h)

pub one_most : (b : Bool) → one_if b ≤ 1
one_most true = omega arith
one_most false = omega arith

-- the lowest number sought is at most each that is sought, and where it is below 4,294,967,295 it stands somewhere
module _ (numbers marks : List ℕ) (wanted from : ℕ) where
  candidate_is : (number mark : ℕ) → mark ≡ wanted → from ≤ number → candidate_of number mark wanted from ≡ number
  unfolding candidate_of
  candidate_is number mark e h = simp (eq-eqb mark wanted e, le-ltb number from h)

  candidate_there : (number mark : ℕ) → candidate_of number mark wanted from < 4294967295 → (mark ≡ wanted) × (from ≤ number) × (number ≡ candidate_of number mark wanted from)
  unfolding candidate_of
  candidate_there number mark h =
      case
      (λ (e : mark ≡ wanted).
      case
      (λ (q : number < from). let e' = eq-eqb mark wanted e in let q' = lt-ltb number from q in let z : 4294967295 < 4294967295 = simp (e', q') at h in absurd (omega arith))
      (λ (q : number < from → ⊥). let k : from ≤ number = omega arith in (e, k, sym (candidate_is number mark e k)))
      (dec_lt number from))
      (λ (o : mark ≡ wanted → ⊥). let o' = ne_eqb mark wanted o in let z : 4294967295 < 4294967295 = simp o' at h in absurd (omega arith))
      (ℕ_discrete mark wanted)

  pub least_most : (n : ℕ) → least_of numbers marks wanted from n ≤ 4294967295
  unfolding least_of
  least_most zero = omega arith
  least_most (suc n) = omega (arith, least_most n)

  pub least_at : (n j : ℕ) → j < n → marks ! j ≡ wanted → from ≤ numbers ! j → least_of numbers marks wanted from n ≤ numbers ! j
  unfolding least_of
  least_at zero j h e k = absurd (not-suc-le-zero h)
  least_at (suc n) j h e k =
      case
      (λ (q : j ≡ n). omega (arith, subst (λ (m : ℕ). candidate_of (numbers ! m) (marks ! m) wanted from ≡ numbers ! j) q (candidate_is (numbers ! j) (marks ! j) e k)))
      (λ (q : j ≡ n → ⊥). omega (arith, least_at n j (omega (arith, q)) e k))
      (ℕ_discrete j n)

  pub record Found (n : ℕ) (low : ℕ) : Type 0 where
    pub place : ℕ
    pub inside : place < n
    pub marked : marks ! place ≡ wanted
    pub high : from ≤ numbers ! place
    pub is : numbers ! place ≡ low

  pub least_there : (n : ℕ) → least_of numbers marks wanted from n < 4294967295 → Found n (least_of numbers marks wanted from n)
  unfolding least_of
  least_there zero h = absurd (omega arith)
  least_there (suc n) h =
      let one = candidate_of (numbers ! n) (marks ! n) wanted from in
      case
      (λ (q : one < least_of numbers marks wanted from n).
      let w = candidate_there (numbers ! n) (marks ! n) (omega arith) in
      record { place = n; inside = omega arith; marked = w.0; high = w.1; is = omega (arith, w.2) })
      (λ (q : one < least_of numbers marks wanted from n → ⊥).
      let f = least_there n (omega arith) in
      record { place = f.place; inside = omega (arith, f.inside); marked = f.marked; high = f.high; is = omega (arith, f.is) })
      (dec_lt one (least_of numbers marks wanted from n))

  -- and among all the places
  lowest_cases : (b : Bool) → eqb (least_of numbers marks wanted from 192) 4294967295 ≡ b → lowest_of numbers marks wanted from ≡ cond b None (Some (least_of numbers marks wanted from 192))
  unfolding lowest_of
  lowest_cases true e = rw e
  lowest_cases false e = rw e

  pub lowest_is : (low : ℕ) → lowest_of numbers marks wanted from ≡ Some low → (least_of numbers marks wanted from 192 ≡ low) × (low < 4294967295)
  lowest_is low h = go (eqb (least_of numbers marks wanted from 192) 4294967295) refl
    where
      go : (b : Bool) → eqb (least_of numbers marks wanted from 192) 4294967295 ≡ b → (least_of numbers marks wanted from 192 ≡ low) × (low < 4294967295)
      go true e = let z = lowest_cases true e in cc
      go false e =
          let z = lowest_cases false e in
          let is : least_of numbers marks wanted from 192 ≡ low = cc in
          (is, omega (arith, is, least_most 192, eqb-false (least_of numbers marks wanted from 192) 4294967295 e))

  pub lowest_not : lowest_of numbers marks wanted from ≡ None → least_of numbers marks wanted from 192 ≡ 4294967295
  lowest_not h = go (eqb (least_of numbers marks wanted from 192) 4294967295) refl
    where
      go : (b : Bool) → eqb (least_of numbers marks wanted from 192) 4294967295 ≡ b → least_of numbers marks wanted from 192 ≡ 4294967295
      go true e = eqb-true _ _ e
      go false e = let z = lowest_cases false e in cc
