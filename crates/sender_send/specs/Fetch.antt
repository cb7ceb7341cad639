-- What fetch does, whatever it is given: its answer, and what it leaves of the output. It changes no state.
use Rattle.std.specs.Prelude.{ℕ, not, List, [], ◌∷◌, leb, ltb, length, Result}
use Rattle.terms.specs.Ladder.{◌when◌else◌}
use Rattle.terms.specs.Lists.{◌at_front_of◌}
use Rattle.terms.specs.Answers.{Said, refusal, values, ◌unless_refused◌else◌, said_of}
use Rattle.terms.specs.declared.Refusal.{Refusal}
use Rattle.sender_state.specs.Table.{◌!◌}
use Rattle.sender_state.specs.Rules.{rules, sizes_fit}
use Rattle.sender_state.specs.declared.Sender.{Sender}
use Rattle.sender_state.specs.Numbers.{in_flight, size_of, stored_packet}

-- the answer, by document 01's numbers in its order; rank 0 is the lowest number in flight
unfoldable pub fetch_said : Sender → ℕ → ℕ → ℕ → Said
fetch_said s rank store_length room =
    -- state breaks the rules
    refusal 11 when not (rules s) else
    -- chunk size, slot count or store length wrong
    refusal 10 when not (sizes_fit s.chunk s.count store_length) else
    -- no such rank in flight
    refusal 17 when leb (length (in_flight s)) rank else
    -- output shorter than needed
    refusal 7 when ltb room (size_of s (in_flight s ! rank)) else
    values (size_of s (in_flight s ! rank) ∷ [])

-- what it says, and what it leaves of the output
pub record Fetches : Type 0 where
  pub says : Said
  pub output : List ℕ

-- where it is done, the packet stands at the output's front
unfoldable pub fetch_of : Sender → ℕ → List ℕ → List ℕ → Fetches
fetch_of s rank store output =
    let answer = fetch_said s rank (length store) (length output) in
    record {
      says = answer;
      output = stored_packet s store (in_flight s ! rank) at_front_of output unless_refused answer else output;
    }

-- results of the code, as an outcome
abbrev pub fetched : Result ℕ Refusal → List ℕ → Fetches
fetched answer output = record { says = said_of answer; output = output }
