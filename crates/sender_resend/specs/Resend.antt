-- What resend does, whatever it is given: its answer, and what it leaves of the state. Fetch by rank gives the packets.
use Rattle.std.specs.Prelude.{ℕ, ◌+◌, ◌-◌, Bool, false, ◌||◌, not, List, [], ◌∷◌, leb, ltb, length, take, Option, Some, None}
use Rattle.terms.specs.Ladder.{◌when◌else◌}
use Rattle.terms.specs.Lists.{all}
use Rattle.terms.specs.Answers.{Said, refusal, values, ◌unless_refused◌else◌, said_of}
use Rattle.timer.specs.Timer.{rto_of}
use Rattle.timer.specs.Window.{fallen_of}
use Rattle.sender_state.specs.Table.{◌!◌, differs, place_of}
use Rattle.sender_state.specs.Places.{places_of, stamping, state_of}
use Rattle.sender_state.specs.Rules.{rules, counts_fit, clock_wrong}
use Rattle.sender_state.specs.Answers.{Outcome}
use Rattle.sender_state.specs.declared.Sender.{Sender}
use Rattle.sender_state.specs.Numbers.{numbers_where, marked_with, in_flight}
use Rattle.sender_resend.specs.declared.Resent.{Resent}

-- the timer is due: armed, and the clock at or past it
unfoldable pub is_due : Option ℕ → ℕ → Bool
is_due None clock = false
is_due (Some due) clock = leb due clock

-- what keeps resend from being done, by document 01's numbers in its order
unfoldable pub resend_refusal : Sender → ℕ → Said
resend_refusal s clock =
    -- state breaks the rules
    refusal 11 when not (rules s) else
    -- chunk size or slot count wrong; no store is lent
    refusal 10 when not (counts_fit s.chunk s.count) else
    -- clock below the last accepted clock, or above 10^15
    refusal 24 when clock_wrong s.clock clock else
    -- timer unarmed or not due
    refusal 25 when not (is_due s.timer clock) else
    values []

-- the longest run from the front whose elements pass
abbrev pub run_while : (ℕ → Bool) → List ℕ → List ℕ
run_while p [] = []
run_while p (n ∷ l) = (n ∷ run_while p l) when p n else []

-- a number's age is strictly above RTO
abbrev pub aged : List ℕ → List ℕ → ℕ → ℕ → ℕ → Bool
aged numbers sent clock rto n = ltb rto (clock - (sent ! place_of numbers n))

-- expired: the longest run from the lowest in-flight number with age strictly above RTO, at most window many
abbrev pub expired_in : List ℕ → List ℕ → List ℕ → ℕ → ℕ → ℕ → ℕ → List ℕ
expired_in numbers sent marks next clock rto window = take window (run_while (aged numbers sent clock rto) (numbers_where numbers next (marked_with 2 marks)))

abbrev pub expired_of : Sender → ℕ → List ℕ
expired_of s clock = expired_in s.numbers s.sent s.marks s.next.0 clock (rto_of s.timing) s.window

abbrev pub is_empty : List ℕ → Bool
is_empty l = leb (length l) 0

abbrev pub is_in : List ℕ → ℕ → Bool
is_in l n = not (all (differs n) l)

-- a state with another timer and clock
abbrev pub timed_at : Sender → Option ℕ → ℕ → Sender
timed_at s timer clock = state_of s.chunk s.count s.next.0 s.window s.timing timer clock (places_of s)

-- RTT and RTO become unsampled, the packets of the places that pass get the new clock and are marked as sent more than once, the timer is clock + 9,000, a window above 1 falls by 1
abbrev pub resent_by : Sender → ℕ → (ℕ → Bool) → Sender
resent_by s clock again = state_of s.chunk s.count s.next.0 (fallen_of s.window) None (Some (clock + 9000)) clock (stamping (places_of s) again clock)

-- the state after it
abbrev pub resend_leaves : Sender → ℕ → Bool → Sender
resend_leaves s clock path =
    -- nothing in flight disarms the timer
    timed_at s None clock when is_empty (in_flight s) else
    -- none expired, or no new path given: timer = clock + RTO
    timed_at s (Some (clock + rto_of s.timing)) clock when (is_empty (expired_of s clock) || not path) else
    resent_by s clock (λ i. is_in (expired_of s clock) (s.numbers ! i))

-- the count
abbrev pub resend_count : Sender → ℕ → Bool → ℕ
resend_count s clock path = length (expired_of s clock) when path else 0

-- the whole outcome; nothing is lent to change
unfoldable pub resend_of : Sender → ℕ → Bool → Outcome
resend_of s clock path =
    let refused = resend_refusal s clock in
    record {
      says = values (resend_count s clock path ∷ []) unless_refused refused else refused;
      state = resend_leaves s clock path unless_refused refused else s;
      lent = [];
    }

-- results of the code, as an outcome
abbrev pub resent_out : Resent → Outcome
resent_out r = record { says = said_of r.answer; state = r.state; lent = [] }
