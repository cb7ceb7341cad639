-- Lists of numbers, as a definition speaks of them: a part by its place, and a test at each element.
use Rattle.std.specs.Prelude.{ℕ, suc, ◌-◌, Bool, true, ◌&&◌, List, [], ◌∷◌, ◌++◌, length, take, drop}

infixr 30 ◌at_front_of◌
-- the elements of l from index from up to, and not with, index to
abbrev pub part : List ℕ → ℕ → ℕ → List ℕ
part l from to = take (to - from) (drop from l)

-- l with the bytes b in the place of its first ones
abbrev pub ◌at_front_of◌ : List ℕ → List ℕ → List ℕ
b at_front_of l = b ++ drop (length b) l

-- the test p passes at each element
abbrev pub all : (ℕ → Bool) → List ℕ → Bool
all p [] = true
all p (x ∷ xs) = p x && all p xs

-- the test p passes at each place, counted from i, and its element
abbrev pub each : (ℕ → ℕ → Bool) → ℕ → List ℕ → Bool
each p i [] = true
each p i (x ∷ xs) = p i x && each p (suc i) xs

-- lists one behind the other
abbrev pub joined : List (List ℕ) → List ℕ
joined [] = []
joined (l ∷ ls) = l ++ joined ls
