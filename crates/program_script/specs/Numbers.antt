-- The numbers that a call asks, and the first that it answers.
use Rattle.std.specs.Prelude.{ℕ, List, get_or, Result, Ok, Err}
use Rattle.terms.specs.Refusals.{number_of}
use Rattle.terms.specs.declared.Refusal.{Refusal}

-- the number of a field, and 0 where there is no such field
abbrev pub number_in : List ℕ → ℕ → ℕ
number_in asked at = get_or asked at 0

-- document 01's number of a refusal, and 0 where there is none
abbrev pub code_of : {A : Type 0} → Result A Refusal → ℕ
code_of (Ok given) = 0
code_of (Err why) = number_of why
