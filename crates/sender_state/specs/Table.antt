-- The table of places, by index and by number: which number stands where, which are waiting and which in flight.
use Rattle.std.specs.Prelude.{ℕ, suc, ◌+◌, Bool, ◌||◌, not, List, [], ◌∷◌, eqb, get_or}
use Rattle.terms.specs.Ladder.{◌when◌else◌}

infix 60 ◌!◌
infixr 26 ◌unless◌
-- what stands at an index
abbrev pub ◌!◌ : List ℕ → ℕ → ℕ
l ! i = get_or l i 0

-- a holds, or b does
abbrev pub ◌unless◌ : Bool → Bool → Bool
a unless b = b || a

-- a place's mark: 0 free, 1 waiting, 2 in flight
abbrev pub is_free : ℕ → Bool
is_free mark = eqb mark 0

abbrev pub is_waiting : ℕ → Bool
is_waiting mark = eqb mark 1

abbrev pub is_flying : ℕ → Bool
is_flying mark = eqb mark 2

-- 1 where a test passes
abbrev pub one_if : Bool → ℕ
one_if test = 1 when test else 0

-- how many are equal to x
abbrev pub count_of : ℕ → List ℕ → ℕ
count_of x [] = 0
count_of x (y ∷ l) = one_if (eqb y x) + count_of x l

-- the place of a number: the first index at which it stands, and the list's length where it stands nowhere
abbrev pub place_of : List ℕ → ℕ → ℕ
place_of [] n = 0
place_of (x ∷ l) n = 0 when eqb x n else suc (place_of l n)

-- y is another than x
abbrev pub differs : ℕ → ℕ → Bool
differs x y = not (eqb y x)

-- a list with a value in each place that passes, counted from i
unfoldable pub replaced : {A : Type 0} → A → (ℕ → Bool) → ℕ → List A → List A
replaced value p i [] = []
replaced value p i (x ∷ l) = (value when p i else x) ∷ replaced value p (suc i) l
