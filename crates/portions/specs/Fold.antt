-- A reader of single bytes: each byte changes its state and may give something out. What a string of bytes does is then one fold.
use Rattle.std.specs.Prelude.{ℕ, List, [], ◌∷◌, ◌++◌}

-- what a byte, or a string of them, leaves: the state, and what was given out, the first thing first
pub record Left (State Given : Type 0) : Type 0 where
  pub state : State
  pub gave : List Given

-- a state, with nothing given out
abbrev pub quiet : {State Given : Type 0} → State → Left State Given
quiet state = record { state = state; gave = [] }

-- with something that was given out before
abbrev pub behind : {State Given : Type 0} → List Given → Left State Given → Left State Given
behind first left = record { state = left.state; gave = first ++ left.gave }

module _ {State Given : Type 0} (step : State → ℕ → Left State Given) where
  -- all bytes of a string, one after the other
  abbrev pub read_all : State → List ℕ → Left State Given
  read_all state [] = record { state = state; gave = [] }
  read_all state (byte ∷ rest) = behind (step state byte).gave (read_all (step state byte).state rest)

  -- portion after portion
  abbrev pub read_portions : State → List (List ℕ) → Left State Given
  read_portions state [] = record { state = state; gave = [] }
  read_portions state (portion ∷ rest) = behind (read_all state portion).gave (read_portions (read_all state portion).state rest)
