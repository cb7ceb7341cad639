-- Parts of a list; an end that is not there gives nothing.
use Rattle.std.specs.Prelude.{ℕ, leb, List, [], length, take}
use Rattle.terms.specs.Ladder.{◌when◌else◌}
use Rattle.terms.specs.Lists.{part}

-- the first n
abbrev pub front_of : {A : Type 0} → ℕ → List A → List A
front_of n l = take n l when leb n (length l) else []

-- all from a place on
abbrev pub rest_of : ℕ → List ℕ → List ℕ
rest_of at l = part l at (length l) when leb at (length l) else []
