-- What a line of the table says, and that it holds: the definitions are computed, and the result is compared.
use Rattle.std.specs.Prelude.{ℕ, suc, ◌+◌, ◌-◌, Bool, true, false, ◌&&◌, List, [], ◌∷◌, ◌++◌, eqb, length, replicate, Option, Some, None}
use Rattle.terms.specs.Answers.{Said, refusal, values}
use Rattle.receiver_runs.specs.Runs.{Call, Event, begun, events_of}
use Rattle.receiver_runs.specs.History.{Piece, taken_in}
use Rattle.timer.specs.Timer.{smoothed_of, sampled_of, rto_of}
use Rattle.timer.specs.Window.{grown_of}
use Rattle.timer.specs.declared.Sampled.{Sampled}
use Rattle.timer_float.specs.Float.{float_of, smooth_said}
use Rattle.sender_state.specs.Places.{state_of}
use Rattle.sender_state.specs.Answers.{Outcome}
use Rattle.sender_state.specs.declared.Sender.{Sender}
use Rattle.sender_resend.specs.Resend.{resend_of}

pub data Line : Type 0 where
  -- a receiver is started after s; then these calls: what the last one answers, and the output as it leaves it
  receives : ℕ → List Call → Said → List ℕ → Line
  -- the same: what the takes among the calls give
  hands : ℕ → List Call → List Piece → Line
  -- a window, and what it becomes with each packet acknowledged
  grows : ℕ → List ℕ → Line
  -- samples, and what they leave: RTT, deviation and RTO
  smooths : List ℕ → ℕ → ℕ → ℕ → Line
  -- an old time and a sample, and the new time by the f64 engine and by the whole-number one
  weighs : ℕ → ℕ → ℕ → Line
  -- packets in flight of these ages, the lowest number first, and a window, at RTO 9,000: how many are resent, and the window after it
  resends : List ℕ → ℕ → ℕ → ℕ → Line

abbrev same : List ℕ → List ℕ → Bool
same [] [] = true
same [] (y ∷ ys) = false
same (x ∷ xs) [] = false
same (x ∷ xs) (y ∷ ys) = eqb x y && same xs ys

-- an answer as numbers: 1 and the refusal's, or 0 and the values
abbrev in_numbers : Said → List ℕ
in_numbers (refusal why) = 1 ∷ why ∷ []
in_numbers (values given) = 0 ∷ given

abbrev as_answered : Said → List ℕ → Event → Bool
as_answered answer output e = same (in_numbers answer) (in_numbers e.answered) && same output e.output

abbrev last_is : Said → List ℕ → List Event → Bool
last_is answer output [] = false
last_is answer output (e ∷ []) = as_answered answer output e
last_is answer output (e ∷ (f ∷ rest)) = last_is answer output (f ∷ rest)

-- pieces as numbers: each one's number, its length, and its bytes
abbrev spelled : List Piece → List ℕ
spelled [] = []
spelled (piece ∷ rest) = piece.number ∷ length piece.bytes ∷ (piece.bytes ++ spelled rest)

-- the calls of a run, with slots of one byte
abbrev run_of : ℕ → List Call → List Event
run_of s calls = events_of (begun (record { 0 = s }) 1 (replicate 512 0)) calls

-- an engine's answer is this time
abbrev weighing : Said → ℕ → Bool
weighing said time = same (in_numbers said) (0 ∷ time ∷ [])

abbrev growing : ℕ → List ℕ → Bool
growing window [] = true
growing window (grown ∷ rest) = eqb (grown_of window) grown && growing grown rest

abbrev sampled_by : Option Sampled → List ℕ → Option Sampled
sampled_by timing [] = timing
sampled_by timing (sample ∷ rest) = sampled_by (sampled_of timing sample) rest

abbrev timed : Option Sampled → ℕ → ℕ → ℕ → Bool
timed None rtt deviation rto = false
timed (Some t) rtt deviation rto = eqb t.rtt rtt && (eqb t.deviation deviation && eqb (rto_of (Some t)) rto)

-- a list of 192 with the given numbers at its front
abbrev row : List ℕ → List ℕ
row l = l ++ replicate (192 - length l) 0

-- numbers 1, 2 and on
abbrev numbered : ℕ → List ℕ → List ℕ
numbered n [] = []
numbered n (x ∷ l) = n ∷ numbered (suc n) l

-- when each was sent, to have its age at clock 20,000
abbrev sent_times : List ℕ → List ℕ
sent_times [] = []
sent_times (age ∷ rest) = (20000 - age) ∷ sent_times rest

-- a sender at clock 20,000 with these packets in flight and its timer due
abbrev flying : List ℕ → ℕ → Sender
flying ages window =
    state_of 1 192 (length ages + 1) window None (Some 20000) 20000
    (record {
      numbers = row (numbered 1 ages);
      lengths = row (replicate (length ages) 22);
      sent = row (sent_times ages);
      resent = row [];
      marks = row (replicate (length ages) 2);
    })

abbrev resent : Outcome → ℕ → ℕ → Bool
resent outcome count window = same (in_numbers outcome.says) (0 ∷ count ∷ []) && eqb outcome.state.window window

unfoldable pub holds : Line → Bool
holds (receives s calls answer output) = last_is answer output (run_of s calls)
holds (hands s calls pieces) = same (spelled pieces) (spelled (taken_in (run_of s calls)))
holds (grows window list) = growing window list
holds (smooths samples rtt deviation rto) = timed (sampled_by None samples) rtt deviation rto
holds (weighs old sample time) = weighing (smooth_said float_of old sample) time && weighing (smooth_said smoothed_of old sample) time
holds (resends ages window count after) = resent (resend_of (flying ages window) 20000 true) count after

-- every line holds
abbrev pub all_hold : List Line → Bool
all_hold [] = true
all_hold (line ∷ rest) = holds line && all_hold rest
