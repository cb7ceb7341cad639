-- Lists of pieces, when more come behind: the first of a number stays the first, and the highest grows with what comes. Assumes nothing.
use Prim.Native.Nat.{ℕ, suc, zero, max, ◌≤◌}
use mathlib.Core.Path.{◌≡◌, refl, ap}
use mathlib.Core.Bool.{Bool, true, false}
use mathlib.Core.List.{List, [], ◌∷◌, ◌++◌}
use mathlib.Core.Logic.{◌⊎◌, inl, inr, ⊎_elim}
use mathlib.Core.Option.{Option, none, some}
use native.Mathlib.Omega.{arith}
use borrow.Author.Tests.{eqb-true, eq-eqb, ne_eqb}
use lib.Dec.{eqb}
use lib.ListN.{length, get_elem?}
use Rattle.terms.specs.Ladder.{◌when◌else◌}
use Rattle.receiver_runs.specs.History.{Piece, first_of, highest_of}

-- a number has a first piece or none
pub by_first : {C A : Type 0} (o : Option A) → (o ≡ none → C) → ((x : A) → o ≡ some x → C) → C
by_first none f g = f refl
by_first (some x) f g = g x refl

pub some_not_none : {C A : Type 0} {x : A} {o : Option A} → o ≡ some x → o ≡ none → C
some_not_none p q = let z : ◌≡◌ {A = ℕ} 0 1 = cc in absurd (omega arith)

-- a rung that stays, over a ladder's rest that changes
same_rung : {A : Type 0} (x y y' z : A) (t : Bool) → (y ≡ z → y' ≡ z) → (x when t else y) ≡ z → (x when t else y') ≡ z
same_rung x y y' z true f e = e
same_rung x y y' z false f e = f e

-- the first stays the first, whatever comes behind
pub first_stays : (n : ℕ) (l m : List Piece) (bytes : List ℕ) → first_of n l ≡ some bytes → first_of n (l ++ m) ≡ some bytes
first_stays n [] m bytes e = some_not_none e refl
first_stays n (p ∷ l) m bytes e =
    same_rung (some p.bytes) (first_of n l) (first_of n (l ++ m)) (some bytes) (eqb p.number n) (first_stays n l m bytes) e

none_rung : (x : List ℕ) (y y' z : Option (List ℕ)) (t : Bool) → (y ≡ none → y' ≡ z) → (some x when t else y) ≡ none → (some x when t else y') ≡ z
none_rung x y y' z true f e = some_not_none refl e
none_rung x y y' z false f e = f e

-- where there was none, it is the first of what comes behind
pub first_behind : (n : ℕ) (l m : List Piece) → first_of n l ≡ none → first_of n (l ++ m) ≡ first_of n m
first_behind n [] m e = refl
first_behind n (p ∷ l) m e = none_rung p.bytes (first_of n l) (first_of n (l ++ m)) (first_of n m) (eqb p.number n) (first_behind n l m) e

-- one piece of another number changes nothing
pub first_other : (n : ℕ) (l : List Piece) (p : Piece) → (p.number ≡ n → ⊥) → first_of n (l ++ (p ∷ [])) ≡ first_of n l
first_other n l p other =
    by_first (first_of n l)
    (λ e. rw (first_behind n l (p ∷ []) e, ne_eqb p.number n other, e))
    (λ b e. let k = first_stays n l (p ∷ []) b e in cc)

-- and one of its own is the first where there was none
pub first_own : (n : ℕ) (l : List Piece) (p : Piece) → p.number ≡ n → first_of n l ≡ none → first_of n (l ++ (p ∷ [])) ≡ some p.bytes
first_own n l p own e = rw (first_behind n l (p ∷ []) e, eq-eqb p.number n own)

-- the highest, with one piece more
pub highest_more : (s : ℕ) (l : List Piece) (p : Piece) → highest_of s (l ++ (p ∷ [])) ≡ max (highest_of s l) p.number
highest_more s [] p = omega arith
highest_more s (q ∷ l) p = omega (arith, highest_more s l p)

under : (n s : ℕ) (p : Piece) (l : List Piece) (bytes : List ℕ) (t : Bool) → eqb p.number n ≡ t → (first_of n l ≡ some bytes → n ≤ highest_of s l)
    → (some p.bytes when t else first_of n l) ≡ some bytes → n ≤ highest_of s (p ∷ l)
under n s p l bytes true q f e = omega (arith, eqb-true p.number n q)
under n s p l bytes false q f e = omega (arith, f e)

-- no number that has a piece is above it
pub under_highest : (n s : ℕ) (l : List Piece) (bytes : List ℕ) → first_of n l ≡ some bytes → n ≤ highest_of s l
under_highest n s [] bytes e = some_not_none e refl
under_highest n s (p ∷ l) bytes e = under n s p l bytes (eqb p.number n) refl (under_highest n s l bytes) e

-- what stands at a place, with one more at the end
pub at_place : {A : Type 0} (l : List A) (x y : A) (k : ℕ) → get_elem? (l ++ (x ∷ [])) k ≡ some y → (get_elem? l k ≡ some y) ⊎ ((k ≡ length l) × (x ≡ y))
at_place [] x y zero e = inr (refl, cc)
at_place [] x y (suc k) e = some_not_none e refl
at_place (z ∷ l) x y zero e = inl e
at_place (z ∷ l) x y (suc k) e = ⊎_elim inl (λ h. inr (ap suc h.0, h.1)) (at_place l x y k e)
