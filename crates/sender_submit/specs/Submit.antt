-- What submit does, whatever it is given: its answer (crate submit_answer), and what it leaves of the state and of the store.
use Rattle.std.specs.Prelude.{ℕ, List, length}
use Rattle.terms.specs.declared.StreamId.{StreamId}
use Rattle.terms.specs.Answers.{◌unless_refused◌else◌, said_of}
use Rattle.receiver_state.specs.declared.Receiver.{Receiver}
use Rattle.sender_state.specs.Answers.{Outcome}
use Rattle.sender_state.specs.declared.Sender.{Sender}
use Rattle.sender_submit_answer.specs.Answer.{chunks_of, submit_said}
use Rattle.sender_submit.specs.Chunks.{data_packet, Stored, stored_by}
use Rattle.sender_submit.specs.declared.Submitted.{Submitted}

module _ (s : Sender) (r : Receiver) (send recv : StreamId) (bytes store : List ℕ) where
  -- what it leaves where it is done
  abbrev pub submit_leaves : Stored
  submit_leaves = stored_by (data_packet r send recv) (chunks_of s.chunk (length bytes)) bytes s store

  -- the whole outcome: all or nothing
  unfoldable pub submit_of : Outcome
  submit_of =
      let answer = submit_said s r (length bytes) (length store) in
      record {
        says = answer;
        state = submit_leaves.state unless_refused answer else s;
        lent = submit_leaves.store unless_refused answer else store;
      }

-- results of the code, as an outcome
abbrev pub submitted_out : Submitted → List ℕ → Outcome
submitted_out a store = record { says = said_of a.answer; state = a.state; lent = store }
