-- What a history tells: the packets that were accepted, what the takes gave, and which calls were refused.
use Rattle.std.specs.Prelude.{ℕ, max, List, [], ◌∷◌, ◌++◌, eqb, get_or}
use Rattle.std.proofs.Math.Option.{Option, none, some}
use Rattle.terms.specs.Ladder.{◌when◌else◌}
use Rattle.terms.specs.Lists.{part}
use Rattle.terms.specs.Answers.{Said, refusal, values}
use Rattle.receiver_runs.specs.Runs.{Call, accept, take, acknowledge, Event}

-- a number and its bytes
pub record Piece : Type 0 where
  pub number : ℕ
  pub bytes : List ℕ

-- a packet that was accepted: its number and its payload
abbrev pub accepted_by : Call → Said → List Piece
accepted_by (accept number payload) (values given) = record { number = number.0; bytes = payload } ∷ []
accepted_by (accept number payload) (refusal why) = []
accepted_by (take output) says = []
accepted_by (acknowledge send recv output) says = []

-- the accepted packets, in the order in which they came
abbrev pub accepted_in : List Event → List Piece
accepted_in [] = []
accepted_in (e ∷ rest) = accepted_by e.asked e.answered ++ accepted_in rest

-- what a take gave: of the number that was next, as many bytes as it answered, from the output's front
abbrev pub taken_by : Call → ℕ → Said → List ℕ → List Piece
taken_by (accept number payload) next says output = []
taken_by (take room) next (values given) output = record { number = next; bytes = part output 0 (get_or given 0 0) } ∷ []
taken_by (take room) next (refusal why) output = []
taken_by (acknowledge send recv room) next says output = []

-- what the takes gave, in their order
abbrev pub taken_in : List Event → List Piece
taken_in [] = []
taken_in (e ∷ rest) = taken_by e.asked e.next e.answered e.output ++ taken_in rest

-- the bytes of the first piece of a number, if there is one
abbrev pub first_of : ℕ → List Piece → Option (List ℕ)
first_of n [] = none
first_of n (piece ∷ rest) = some piece.bytes when eqb piece.number n else first_of n rest

-- the highest number of the pieces, and s where there is none above it
abbrev pub highest_of : ℕ → List Piece → ℕ
highest_of s [] = s
highest_of s (piece ∷ rest) = max piece.number (highest_of s rest)

-- the numbers of the refusals
abbrev pub refused_by : Said → List ℕ
refused_by (refusal why) = why ∷ []
refused_by (values given) = []

abbrev pub refused_in : List Event → List ℕ
refused_in [] = []
refused_in (e ∷ rest) = refused_by e.answered ++ refused_in rest
