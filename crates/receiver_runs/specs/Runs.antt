-- A run of a receiver: a start, and then any calls whatever, with any arguments, refused ones included, each given the state and the store
-- that the last one left. What was asked and answered is a list, and no part of the state.
use Rattle.std.specs.Prelude.{ℕ, ◌^◌, ◌≡◌, Bool, true, ◌&&◌, List, [], ◌∷◌, ltb, length}
use Rattle.terms.specs.declared.SeqNo.{SeqNo}
use Rattle.terms.specs.declared.StreamId.{StreamId}
use Rattle.terms.specs.Answers.{Said, values}
use Rattle.receiver_state.specs.Start.{start_of}
use Rattle.receiver_calls.specs.Accept.{accept_of}
use Rattle.receiver_calls.specs.Take.{take_of}
use Rattle.receiver_state.specs.declared.Receiver.{Receiver}
use Rattle.receiver_ack.specs.Acknowledge.{acknowledge_of}

-- a call, with what it is given beside the state and the store
pub data Call : Type 0 where
  -- a packet's number and payload
  accept : SeqNo → List ℕ → Call
  -- an output
  take : List ℕ → Call
  -- both stream ids, in wire order, and an output
  acknowledge : StreamId → StreamId → List ℕ → Call

-- what was asked and answered
pub record Event : Type 0 where
  pub asked : Call
  -- the next number to take when it was asked: the one that a take takes
  pub next : ℕ
  pub answered : Said
  -- the output as the call left it; accept has none
  pub output : List ℕ

-- the state and the store that a call leaves to the next one
pub record Kept : Type 0 where
  pub state : Receiver
  pub store : List ℕ

pub record Step : Type 0 where
  pub event : Event
  pub kept : Kept

-- one call
abbrev pub step_of : Kept → Call → Step
step_of before (accept number payload) =
    let outcome = accept_of before.state number payload before.store in
    record {
      event = record { asked = accept number payload; next = before.state.head.next.0; answered = outcome.says; output = [] };
      kept = record { state = outcome.state; store = outcome.lent };
    }
step_of before (take output) =
    let outcome = take_of before.state before.store output in
    record {
      event = record { asked = take output; next = before.state.head.next.0; answered = outcome.says; output = outcome.lent };
      kept = record { state = outcome.state; store = before.store };
    }
step_of before (acknowledge send recv output) =
    let outcome = acknowledge_of before.state send recv output in
    record {
      event = record { asked = acknowledge send recv output; next = before.state.head.next.0; answered = outcome.says; output = outcome.output };
      kept = before;
    }

-- what a list of calls leaves
abbrev pub kept_after : Kept → List Call → Kept
kept_after before [] = before
kept_after before (call ∷ rest) = kept_after (step_of before call).kept rest

-- and what was asked and answered on the way, the first call first
abbrev pub events_of : Kept → List Call → List Event
events_of before [] = []
events_of before (call ∷ rest) = (step_of before call).event ∷ events_of (step_of before call).kept rest

-- A number of these definitions has no bound. One of the code is below 2^32, and only such calls can be asked of it.
abbrev pub in_width : Call → Bool
in_width (accept number payload) = ltb number.0 (2 ^ 32)
in_width (take output) = true
in_width (acknowledge send recv output) = ltb send.0 (2 ^ 32) && ltb recv.0 (2 ^ 32)

abbrev pub all_in_width : List Call → Bool
all_in_width [] = true
all_in_width (call ∷ rest) = in_width call && all_in_width rest

pub record Run : Type 0 where
  -- started after this number s, with slots of this size and this store
  pub s : SeqNo
  pub slot : ℕ
  pub store : List ℕ
  pub started : (start_of s slot (length store)).says ≡ values []
  -- and then these calls
  pub calls : List Call
  pub widths : (ltb s.0 (2 ^ 32) && all_in_width calls) ≡ true

-- what the start left
abbrev pub begun : SeqNo → ℕ → List ℕ → Kept
begun s slot store = record { state = (start_of s slot (length store)).state; store = store }

-- the history of a run
abbrev pub history_of : Run → List Event
history_of run = events_of (begun run.s run.slot run.store) run.calls

-- the state and the store at its end
abbrev pub end_of : Run → Kept
end_of run = kept_after (begun run.s run.slot run.store) run.calls
