-- What accept does, whatever it is given: its answer, and what it leaves of the state and of the store.
use Rattle.std.specs.Prelude.{ℕ, ◌+◌, ◌-◌, ◌%◌, max, not, List, [], leb, ltb, eqb, length, set, Result}
use Rattle.terms.specs.declared.Refusal.{Refusal}
use Rattle.terms.specs.declared.SeqNo.{SeqNo}
use Rattle.terms.specs.Ladder.{◌when◌else◌}
use Rattle.terms.specs.Answers.{Said, refusal, values, ◌unless_refused◌else◌, said}
use Rattle.receiver_state.specs.Answers.{Outcome}
use Rattle.receiver_state.specs.Slots.{is_held, mark_of, filled}
use Rattle.receiver_state.specs.Rules.{rules_of, sizes_fit}
use Rattle.receiver_state.specs.declared.Head.{Head}
use Rattle.receiver_state.specs.declared.Receiver.{Receiver}
use Rattle.receiver_calls.specs.declared.Accepted.{Accepted}

-- the answer, by document 01's numbers in its order
unfoldable pub accept_said : Receiver → SeqNo → ℕ → ℕ → Said
accept_said r number size store_length =
    -- state breaks the rules
    refusal 11 when not (rules_of r) else
    -- slot size or store length wrong
    refusal 10 when not (sizes_fit r.head.slot store_length) else
    -- number is 4,294,967,295
    refusal 12 when eqb number.0 4294967295 else
    -- number below the next to take
    refusal 13 when ltb number.0 r.head.next.0 else
    -- number minus next to take is 512 or more
    refusal 14 when leb 512 (number.0 - r.head.next.0) else
    -- number already held
    refusal 15 when is_held (mark_of r.marks number.0) else
    -- payload longer than a slot
    refusal 16 when ltb r.head.slot size else
    values []

-- highest is raised if needed,
abbrev pub holding : Head → SeqNo → Head
holding h number = record { slot = h.slot; start = h.start; next = h.next; highest = record { 0 = max h.highest.0 number.0 } }

-- and the number's slot is held with a payload of this size
unfoldable pub entering : Receiver → SeqNo → ℕ → Receiver
entering r number size = record { head = holding r.head number; marks = set r.marks (number.0 % 512) (size + 1) }

-- the whole outcome; where it is done, the payload stands at the slot's front
unfoldable pub accept_of : Receiver → SeqNo → List ℕ → List ℕ → Outcome
accept_of r number payload store =
    let answer = accept_said r number (length payload) (length store) in
    record {
      says = answer;
      state = entering r number (length payload) unless_refused answer else r;
      lent = filled store r.head.slot number.0 payload unless_refused answer else store;
    }

-- results of the code, as an outcome: by value, and in place, where the state is the one that lies behind the reference at exit
abbrev pub accepted : Accepted → List ℕ → Outcome
accepted a store = record { says = said a.answer; state = a.state; lent = store }

abbrev pub accepted_behind : Result (Unit {0}) Refusal → Receiver → List ℕ → Outcome
accepted_behind answer state store = record { says = said answer; state = state; lent = store }
