-- What acks does, whatever it is given: its answer, and what it leaves of the state.
use Rattle.std.specs.Prelude.{ℕ, ◌-◌, min, Bool, ◌&&◌, not, List, [], ◌∷◌, leb, ltb, eqb, length, Option}
use Rattle.terms.specs.Ladder.{◌when◌else◌}
use Rattle.terms.specs.Lists.{all}
use Rattle.terms.specs.Answers.{Said, refusal, values, ◌unless_refused◌else◌, said_of}
use Rattle.timer.specs.Timer.{sampled_of}
use Rattle.timer.specs.Window.{grown_of}
use Rattle.timer.specs.declared.Sampled.{Sampled}
use Rattle.sender_state.specs.Table.{◌!◌, is_flying, differs, place_of}
use Rattle.sender_state.specs.Places.{places_of, freeing, state_of}
use Rattle.sender_state.specs.Rules.{rules, counts_fit, clock_wrong}
use Rattle.sender_state.specs.Answers.{Outcome}
use Rattle.sender_state.specs.declared.Sender.{Sender}
use Rattle.sender_state.specs.Numbers.{numbers_where}
use Rattle.sender_acks.specs.declared.Acked.{Acked}

-- a packet is acknowledged: in flight, its number at most ack-through and not NACKed
abbrev pub is_acked : ℕ → List ℕ → ℕ → ℕ → Bool
is_acked through nacks number mark = is_flying mark && (leb number through && all (differs number) nacks)

abbrev pub acked_at : List ℕ → List ℕ → ℕ → List ℕ → ℕ → Bool
acked_at numbers marks through nacks i = is_acked through nacks (numbers ! i) (marks ! i)

-- the numbers that it takes out of flight, ascending
abbrev pub acked_of : Sender → ℕ → List ℕ → List ℕ
acked_of s through nacks = numbers_where s.numbers s.next.0 (acked_at s.numbers s.marks through nacks)

-- what keeps acks from being done, by document 01's numbers in its order
unfoldable pub acks_refusal : Sender → ℕ → ℕ → ℕ → Said
acks_refusal s through nack_count clock =
    -- state breaks the rules
    refusal 11 when not (rules s) else
    -- chunk size or slot count wrong; no store is lent
    refusal 10 when not (counts_fit s.chunk s.count) else
    -- clock below the last accepted clock, or above 10^15
    refusal 24 when clock_wrong s.clock clock else
    -- more than 255 NACKs to act on
    refusal 8 when ltb 255 nack_count else
    -- ack-through above the next number
    refusal 23 when ltb s.next.0 through else
    values []

-- sample = clock − sent, at most 4,294,967,295
abbrev pub sample_of : List ℕ → List ℕ → ℕ → ℕ → ℕ
sample_of numbers sent clock n = min (clock - (sent ! place_of numbers n)) 4294967295

-- what a number's sample makes of the timing; a packet that was sent more than once gives none (document 02, request [5]: Karn's rule)
abbrev pub measured_by : List ℕ → List ℕ → List ℕ → ℕ → Option Sampled → ℕ → Option Sampled
measured_by numbers sent resent clock timing n =
    timing when eqb (resent ! place_of numbers n) 1 else
    sampled_of timing (sample_of numbers sent clock n)

-- for each, in order: smooth; then the window grows
abbrev pub timed_by : (Option Sampled → ℕ → Option Sampled) → Option Sampled → List ℕ → Option Sampled
timed_by measured timing [] = timing
timed_by measured timing (n ∷ l) = timed_by measured (measured timing n) l

abbrev pub grown_by : ℕ → List ℕ → ℕ
grown_by window [] = window
grown_by window (n ∷ l) = grown_by (grown_of window) l

-- a state with new timing and window at a clock, and each place that passes freed: every field 0
abbrev pub freed_by : Sender → Option Sampled → ℕ → ℕ → (ℕ → Bool) → Sender
freed_by s timing window clock gone = state_of s.chunk s.count s.next.0 window timing s.timer clock (freeing (places_of s) gone)

abbrev pub acks_leave : Sender → ℕ → List ℕ → ℕ → Sender
acks_leave s through nacks clock =
    freed_by s (timed_by (measured_by s.numbers s.sent s.resent clock) s.timing (acked_of s through nacks)) (grown_by s.window (acked_of s through nacks)) clock
    (acked_at s.numbers s.marks through nacks)

-- the whole outcome; nothing is lent to change
unfoldable pub acks_of : Sender → ℕ → List ℕ → ℕ → Outcome
acks_of s through nacks clock =
    let refused = acks_refusal s through (length nacks) clock in
    record {
      says = values (length (acked_of s through nacks) ∷ []) unless_refused refused else refused;
      state = acks_leave s through nacks clock unless_refused refused else s;
      lent = [];
    }

-- results of the code, as an outcome
abbrev pub acked_out : Acked → Outcome
acked_out r = record { says = said_of r.answer; state = r.state; lent = [] }
