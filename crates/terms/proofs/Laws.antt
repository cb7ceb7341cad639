-- Laws that belong to no one function: tests, and tests over lists at each index. Assumes nothing.
use mathlib.Core.Path.{◌≡◌, refl, ap, sym, ◌∙◌, subst}
use mathlib.Core.Bool.{Bool, true, false, ◌&&◌, ◌||◌, not}
use mathlib.Core.List.{List, [], ◌∷◌}
use Prim.Native.Nat.{ℕ, zero, suc, ◌+◌, ◌-◌, ◌≤◌, ◌<◌, min}
use native.Mathlib.Nat.{add-zero, add-suc, suc-add, le_of_suc-le-suc, not-suc-le-zero}
use native.Mathlib.Omega.{arith}
use lib.ListN.{length, get_or, drop, length-take, length-drop}
use lib.Seq.{get_or-take, get_or-drop}
use Rattle.terms.specs.Answers.{Saying, refusal, values}
use Rattle.terms.specs.Ladder.{◌when◌else◌}
use Rattle.terms.specs.Lists.{all, each, part}

pub case : {A : Type 0} {C : Type 0} → (A → C) → ((A → ⊥) → C) → Dec A → C
case f g (yes a) = f a
case f g (no h) = g h

-- what holds at a rung and below it holds of the ladder
pub rung : {A : Type 0} (P : A → Type 0) {x y : A} (t : Bool) → (t ≡ true → P x) → (t ≡ false → P y) → P (x when t else y)
rung P true f g = f refl
rung P false f g = g refl

-- a ladder that does not end at a rung has passed it
pub rung_passed : {A : Type 0} {x y z : A} (t : Bool) → (x ≡ z → ⊥) → (x when t else y) ≡ z → (t ≡ false) × (y ≡ z)
rung_passed true n e = absurd (n e)
rung_passed false n e = (refl, e)

pub bool_iff : (a b : Bool) → (a ≡ true → b ≡ true) → (b ≡ true → a ≡ true) → a ≡ b
bool_iff true b f g = sym (f refl)
bool_iff false true f g = g refl
bool_iff false false f g = refl

pub and_left : (a b : Bool) → (a && b) ≡ true → a ≡ true
and_left true b h = refl
and_left false b h = h

pub and_right : (a b : Bool) → (a && b) ≡ true → b ≡ true
and_right true b h = h
and_right false true h = refl
and_right false false h = h

pub and_both : (a b : Bool) → a ≡ true → b ≡ true → (a && b) ≡ true
and_both a b p q = rw (p, q)

-- refused with b, and refused without it
pub both_false : (a b : Bool) → (a && not b) ≡ false → (a && b) ≡ false → a ≡ false
both_false true true p q = q
both_false true false p q = p
both_false false b p q = refl

-- tests: what fails is false, and of two the other holds
pub refuted : (b : Bool) → (b ≡ true → ⊥) → false ≡ b
refuted true f = absurd (f refl)
refuted false f = refl

pub or_left : (a b : Bool) → b ≡ false → (a || b) ≡ true → a ≡ true
or_left true b e t = refl
or_left false b e t = sym e ∙ t

pub or_right : (a b : Bool) → a ≡ false → (a || b) ≡ true → b ≡ true
or_right a b e t = rw e at t

pub or_of : (a b : Bool) → (a ≡ false → b ≡ true) → (a || b) ≡ true
or_of true b f = refl
or_of false b f = f refl

pub or_false_left : (a b : Bool) → (a || b) ≡ false → a ≡ false
or_false_left true b e = e
or_false_left false b e = refl

pub or_false_right : (a b : Bool) → (a || b) ≡ false → b ≡ false
or_false_right true true e = e
or_false_right true false e = refl
or_false_right false b e = e

-- a rung of a ladder that ends in values was passed
pub past : {A : Type 0} (number : ℕ) (test : Bool) (rest : Saying A) (given : A) → (refusal number when test else rest) ≡ values given
    → (test ≡ false) × (rest ≡ values given)
past number true rest given h = let z : ◌≡◌ {A = ℕ} 0 1 = cc in absurd (omega arith)
past number false rest given h = (refl, h)

-- a test at each place.
pub each_at : (p : ℕ → ℕ → Bool) (l : List ℕ) (i : ℕ) → each p i l ≡ true → (k : ℕ) → k < length l → p (i + k) (get_or l k 0) ≡ true
each_at p [] i t k h = absurd (not-suc-le-zero h)
each_at p (x ∷ xs) i t zero h = rw add-zero (and_left (p i x) (each p (suc i) xs) t)
each_at p (x ∷ xs) i t (suc k) h =
    subst (λ (m : ℕ). p m (get_or xs k 0) ≡ true) (suc-add i k ∙ sym (add-suc i k))
    (each_at p xs (suc i) (and_right (p i x) (each p (suc i) xs) t) k (le_of_suc-le-suc h))

pub each_of : (p : ℕ → ℕ → Bool) (l : List ℕ) (i : ℕ) → ((k : ℕ) → k < length l → p (i + k) (get_or l k 0) ≡ true) → each p i l ≡ true
each_of p [] i f = refl
each_of p (x ∷ xs) i f =
    and_both (p i x) (each p (suc i) xs)
    (rw add-zero at (f 0 (omega arith)))
    (each_of p xs (suc i) (λ k h. subst (λ (m : ℕ). p m (get_or xs k 0) ≡ true) (add-suc i k ∙ sym (suc-add i k)) (f (suc k) (omega arith))))

pub all_at : (p : ℕ → Bool) (l : List ℕ) → all p l ≡ true → (k : ℕ) → k < length l → p (get_or l k 0) ≡ true
all_at p [] t k h = absurd (not-suc-le-zero h)
all_at p (x ∷ xs) t zero h = and_left (p x) (all p xs) t
all_at p (x ∷ xs) t (suc k) h = all_at p xs (and_right (p x) (all p xs) t) k (le_of_suc-le-suc h)

pub all_of : (p : ℕ → Bool) (l : List ℕ) → ((k : ℕ) → k < length l → p (get_or l k 0) ≡ true) → all p l ≡ true
all_of p [] f = refl
all_of p (x ∷ xs) f =
    and_both (p x) (all p xs) (f 0 (omega arith)) (all_of p xs (λ k h. f (suc k) (omega arith)))

-- the same of a part
module _ (p : ℕ → Bool) (l : List ℕ) (a b : ℕ) where
  pub part_at : all p (part l a b) ≡ true → (k : ℕ) → a ≤ k → k < b → k < length l → p (get_or l k 0) ≡ true
  part_at t k lo hi inl =
      let e : a + (k - a) ≡ k = omega arith in
      let j : k - a < length (part l a b) = simp (length-take, length-drop) (omega arith) in
      let g : get_or (part l a b) (k - a) 0 ≡ get_or l k 0 =
      get_or-take (b - a) (drop a l) (k - a) 0 (omega arith) ∙ get_or-drop a l (k - a) 0 ∙ ap (λ (m : ℕ). get_or l m 0) e in
      subst (λ (m : ℕ). p m ≡ true) g (all_at p (part l a b) t (k - a) j)

  pub part_of : ((k : ℕ) → a ≤ k → k < b → k < length l → p (get_or l k 0) ≡ true) → all p (part l a b) ≡ true
  part_of f =
      all_of p (part l a b)
      (λ k h.
      let h' : k < min (b - a) (length l - a) = simp (length-take, length-drop) at h in
      let g : get_or (part l a b) k 0 ≡ get_or l (a + k) 0 =
      get_or-take (b - a) (drop a l) k 0 (omega arith) ∙ get_or-drop a l k 0 in
      subst (λ (m : ℕ). p m ≡ true) (sym g) (f (a + k) (omega arith) (omega arith) (omega arith)))
