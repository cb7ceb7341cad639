-- What send does, whatever it is given: its answer, and what it leaves of the state and of the output.
use Rattle.std.specs.Prelude.{ℕ, ◌+◌, not, List, [], ◌∷◌, leb, ltb, length, Option, Some, None, Result}
use Rattle.terms.specs.Ladder.{◌when◌else◌}
use Rattle.terms.specs.Lists.{◌at_front_of◌}
use Rattle.terms.specs.declared.Refusal.{Refusal}
use Rattle.terms.specs.Answers.{Said, refusal, values, ◌unless_refused◌else◌, told}
use Rattle.timer.specs.Timer.{rto_of}
use Rattle.sender_state.specs.Table.{◌!◌, count_of, place_of}
use Rattle.sender_state.specs.Places.{places_of, departing, state_of}
use Rattle.sender_state.specs.Rules.{rules, sizes_fit, clock_wrong}
use Rattle.sender_state.specs.Answers.{Outcome}
use Rattle.sender_state.specs.declared.Sender.{Sender}
use Rattle.sender_state.specs.Numbers.{waiting, size_of, stored_packet}
use Rattle.sender_send.specs.declared.Departure.{Departure}
use Rattle.sender_send.specs.declared.Sent.{Sent}

-- send gives the number and the length
abbrev pub said_sent : Result Departure Refusal → Said
said_sent answer = told (λ packet. packet.number.0 ∷ packet.size ∷ []) answer

-- the answer, by document 01's numbers in its order
unfoldable pub send_said : Sender → ℕ → ℕ → ℕ → Said
send_said s clock store_length room =
    -- state breaks the rules
    refusal 11 when not (rules s) else
    -- chunk size, slot count or store length wrong
    refusal 10 when not (sizes_fit s.chunk s.count store_length) else
    -- clock below the last accepted clock, or above 10^15
    refusal 24 when clock_wrong s.clock clock else
    -- nothing waiting
    refusal 17 when leb (length (waiting s)) 0 else
    -- waiting, but in flight is at least the window
    refusal 22 when leb s.window (count_of 2 s.marks) else
    -- output shorter than needed
    refusal 7 when ltb room (size_of s (waiting s ! 0)) else
    values ((waiting s ! 0) ∷ size_of s (waiting s ! 0) ∷ [])

-- arms the timer if unarmed
unfoldable pub armed : Option ℕ → ℕ → Option ℕ
armed None due = Some due
armed (Some at₀) due = Some at₀

-- a state with the packet of a place in flight since the clock
abbrev pub moved : Sender → ℕ → ℕ → Option ℕ → Sender
moved s place clock timer = state_of s.chunk s.count s.next.0 s.window s.timing timer clock (departing (places_of s) place clock)

-- the lowest waiting number moves in flight, the clock is noted, and the timer armed at clock plus RTO if unarmed
abbrev pub departed : Sender → ℕ → Sender
departed s clock = moved s (place_of s.numbers (waiting s ! 0)) clock (armed s.timer (clock + rto_of s.timing))

-- the whole outcome: where it is done, the packet stands at the output's front
unfoldable pub send_of : Sender → ℕ → List ℕ → List ℕ → Outcome
send_of s clock store output =
    let answer = send_said s clock (length store) (length output) in
    record {
      says = answer;
      state = departed s clock unless_refused answer else s;
      lent = stored_packet s store (waiting s ! 0) at_front_of output unless_refused answer else output;
    }

-- results of the code, as an outcome
abbrev pub sent_out : Sent → List ℕ → Outcome
sent_out r output = record { says = said_sent r.answer; state = r.state; lent = output }
