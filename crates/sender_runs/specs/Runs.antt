-- A run of a sender: a start, and then any calls whatever, with any arguments, refused ones included, each given the state and the store that
-- the last one left. What was asked and answered is a list, and no part of the state.
use Rattle.std.specs.Prelude.{ℕ, ◌^◌, ◌≡◌, Bool, true, List, [], ◌∷◌, ltb, length}
use Rattle.terms.specs.declared.SeqNo.{SeqNo}
use Rattle.terms.specs.declared.StreamId.{StreamId}
use Rattle.terms.specs.Answers.{Said, values}
use Rattle.receiver_state.specs.declared.Receiver.{Receiver}
use Rattle.sender_state.specs.Start.{start_of}
use Rattle.sender_state.specs.declared.Sender.{Sender}
use Rattle.sender_send.specs.Send.{send_of}
use Rattle.sender_acks.specs.Acks.{acks_of}
use Rattle.sender_resend.specs.Resend.{resend_of}
use Rattle.sender_send.specs.Fetch.{fetch_of}
use Rattle.sender_submit.specs.Submit.{submit_of}

-- a call, with what it is given beside the state and the store
pub data Call : Type 0 where
  -- the receiving half, both stream ids, in wire order, and the bytes
  submit : Receiver → StreamId → StreamId → List ℕ → Call
  -- a clock and an output
  send : ℕ → List ℕ → Call
  -- an ack-through, NACKs and a clock
  acks : ℕ → List ℕ → ℕ → Call
  -- a clock, and whether a new path is given
  resend : ℕ → Bool → Call
  -- a rank and an output
  fetch : ℕ → List ℕ → Call

-- what was asked and answered
pub record Event : Type 0 where
  pub asked : Call
  -- the next number when it was asked: the first that a submit gives
  pub next : ℕ
  pub answered : Said
  -- the output as the call left it; submit, acks and resend have none
  pub output : List ℕ

-- the state and the store that a call leaves to the next one
pub record Kept : Type 0 where
  pub state : Sender
  pub store : List ℕ

pub record Step : Type 0 where
  pub event : Event
  pub kept : Kept

-- one call
abbrev pub step_of : Kept → Call → Step
step_of before (submit r to from bytes) =
    let outcome = submit_of before.state r to from bytes before.store in
    record {
      event = record { asked = submit r to from bytes; next = before.state.next.0; answered = outcome.says; output = [] };
      kept = record { state = outcome.state; store = outcome.lent };
    }
step_of before (send clock output) =
    let outcome = send_of before.state clock before.store output in
    record {
      event = record { asked = send clock output; next = before.state.next.0; answered = outcome.says; output = outcome.lent };
      kept = record { state = outcome.state; store = before.store };
    }
step_of before (acks through nacks clock) =
    let outcome = acks_of before.state through nacks clock in
    record {
      event = record { asked = acks through nacks clock; next = before.state.next.0; answered = outcome.says; output = [] };
      kept = record { state = outcome.state; store = before.store };
    }
step_of before (resend clock path) =
    let outcome = resend_of before.state clock path in
    record {
      event = record { asked = resend clock path; next = before.state.next.0; answered = outcome.says; output = [] };
      kept = record { state = outcome.state; store = before.store };
    }
step_of before (fetch rank output) =
    let outcome = fetch_of before.state rank before.store output in
    record {
      event = record { asked = fetch rank output; next = before.state.next.0; answered = outcome.says; output = outcome.output };
      kept = before;
    }

-- what a list of calls leaves
abbrev pub kept_after : Kept → List Call → Kept
kept_after before [] = before
kept_after before (call ∷ rest) = kept_after (step_of before call).kept rest

-- and what was asked and answered on the way, the first call first
abbrev pub events_of : Kept → List Call → List Event
events_of before [] = []
events_of before (call ∷ rest) = (step_of before call).event ∷ events_of (step_of before call).kept rest

-- A number of these definitions has no bound. The first number of the code is below 2^32; every call may be asked with any number.
pub record Run : Type 0 where
  -- started with this first number, chunks of this size, so many places, and this store
  pub first : SeqNo
  pub chunk : ℕ
  pub count : ℕ
  pub store : List ℕ
  pub started : (start_of first chunk count (length store)).says ≡ values []
  pub width : ltb first.0 (2 ^ 32) ≡ true
  -- and then these calls
  pub calls : List Call

-- what the start left
abbrev pub begun : SeqNo → ℕ → ℕ → List ℕ → Kept
begun first chunk count store = record { state = (start_of first chunk count (length store)).state; store = store }

-- the history of a run
abbrev pub history_of : Run → List Event
history_of run = events_of (begun run.first run.chunk run.count run.store) run.calls

-- the state and the store at its end
abbrev pub end_of : Run → Kept
end_of run = kept_after (begun run.first run.chunk run.count run.store) run.calls
