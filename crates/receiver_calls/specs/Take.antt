-- What take does, whatever it is given: its answer, and what it leaves of the state and of the output.
use Rattle.std.specs.Prelude.{ℕ, ◌+◌, ◌%◌, not, List, [], ◌∷◌, ltb, length, set, Result}
use Rattle.terms.specs.declared.Refusal.{Refusal}
use Rattle.terms.specs.Ladder.{◌when◌else◌}
use Rattle.terms.specs.Lists.{◌at_front_of◌}
use Rattle.terms.specs.Answers.{Said, refusal, values, ◌unless_refused◌else◌, said_of}
use Rattle.receiver_state.specs.Answers.{Outcome}
use Rattle.receiver_state.specs.Slots.{is_free, length_of, mark_of, held_bytes}
use Rattle.receiver_state.specs.Rules.{rules_of, sizes_fit}
use Rattle.receiver_state.specs.declared.Head.{Head}
use Rattle.receiver_state.specs.declared.Receiver.{Receiver}
use Rattle.receiver_calls.specs.declared.Taken.{Taken}

-- the mark of the next number to take
abbrev pub next_mark : Receiver → ℕ
next_mark r = mark_of r.marks r.head.next.0

-- the answer, by document 01's numbers in its order
unfoldable pub take_said : Receiver → ℕ → ℕ → Said
take_said r store_length room =
    -- state breaks the rules
    refusal 11 when not (rules_of r) else
    -- slot size or store length wrong
    refusal 10 when not (sizes_fit r.head.slot store_length) else
    -- nothing ready: the next number is not held
    refusal 17 when is_free (next_mark r) else
    -- output shorter than needed
    refusal 7 when ltb room (length_of (next_mark r)) else
    values (length_of (next_mark r) ∷ [])

-- next goes on by one,
abbrev pub releasing : Head → Head
releasing h = record { slot = h.slot; start = h.start; next = record { 0 = h.next.0 + 1 }; highest = h.highest }

-- and its slot is freed
unfoldable pub passing : Receiver → Receiver
passing r = record { head = releasing r.head; marks = set r.marks (r.head.next.0 % 512) 0 }

-- the bytes of the next number
abbrev pub next_bytes : Receiver → List ℕ → List ℕ
next_bytes r store = held_bytes r.marks r.head.slot store r.head.next.0

-- the whole outcome; where it is done, what the slot held stands at the output's front
unfoldable pub take_of : Receiver → List ℕ → List ℕ → Outcome
take_of r store output =
    let answer = take_said r (length store) (length output) in
    record {
      says = answer;
      state = passing r unless_refused answer else r;
      lent = next_bytes r store at_front_of output unless_refused answer else output;
    }

-- results of the code, as an outcome: by value, and in place, where the state is the one that lies behind the reference at exit
abbrev pub took : Taken → List ℕ → Outcome
took t output = record { says = said_of t.answer; state = t.state; lent = output }

abbrev pub took_behind : Result ℕ Refusal → Receiver → List ℕ → Outcome
took_behind answer state output = record { says = said_of answer; state = state; lent = output }
