-- A packet arrives, as document 02's kind 1 has it: read; if that succeeds, acks unless bit 10, then in any case accept unless its number is 0. Each is the
-- call's own definition.
use Rattle.std.specs.Prelude.{ℕ, List, [], ◌∷◌, eqb, Result, Option, Some, None}
use Rattle.terms.specs.Ladder.{◌when◌else◌}
use Rattle.terms.specs.Answers.{Saying, Said, refusal, values, said, said_of}
use Rattle.terms.specs.declared.Refusal.{Refusal}
use Rattle.packet_read.specs.Flags.{bit}
use Rattle.packet_read.specs.Reading.{read_of, nack_numbers_of, payload_of}
use Rattle.packet_read.specs.declared.Packet.{Packet}
use Rattle.receiver_state.specs.declared.Receiver.{Receiver}
use Rattle.receiver_calls.specs.Accept.{accept_of}
use Rattle.sender_state.specs.declared.Sender.{Sender}
use Rattle.sender_acks.specs.Acks.{acks_of}
use Rattle.replay_arrival.specs.declared.AckedHere.{AckedHere}
use Rattle.replay_arrival.specs.declared.AcceptedHere.{AcceptedHere}
use Rattle.replay_arrival.specs.declared.Arrived.{Arrived}

-- what acks says where it is asked, and the sender after it
pub record AcksHere : Type 0 where
  pub told : List Said
  pub sender : Sender

-- with the packet's ack-through and NACKs, and the current clock
abbrev pub acks_here : Packet → List ℕ → ℕ → Sender → AcksHere
acks_here p packet clock sender =
    record { told = []; sender = sender } when bit 10 p.flags else
    record {
      told = (acks_of sender p.ack_through.0 (nack_numbers_of packet) clock).says ∷ [];
      sender = (acks_of sender p.ack_through.0 (nack_numbers_of packet) clock).state;
    }

-- what accept says where it is asked, and the receiver and its store after it
pub record AcceptHere : Type 0 where
  pub told : List Said
  pub receiver : Receiver
  pub store : List ℕ

abbrev pub accept_here : Packet → List ℕ → Receiver → List ℕ → AcceptHere
accept_here p packet receiver store =
    record { told = []; receiver = receiver; store = store } when eqb p.seq_nro.0 0 else
    record {
      told = (accept_of receiver p.seq_nro (payload_of packet) store).says ∷ [];
      receiver = (accept_of receiver p.seq_nro (payload_of packet) store).state;
      store = (accept_of receiver p.seq_nro (payload_of packet) store).lent;
    }

-- the answers, in their order, and what is left of both halves and of the receiver's store
pub record Arriving : Type 0 where
  pub read : Said
  pub acks : List Said
  pub accept : List Said
  pub receiver : Receiver
  pub sender : Sender
  pub store : List ℕ

abbrev pub arrives_by : Saying Packet → List ℕ → ℕ → Receiver → Sender → List ℕ → Arriving
-- a packet that cannot be read does nothing
arrives_by (refusal number) packet clock receiver sender store =
    record { read = refusal number; acks = []; accept = []; receiver = receiver; sender = sender; store = store }
-- whatever acks says, accept is asked
arrives_by (values p) packet clock receiver sender store = record {
  read = values [];
  acks = (acks_here p packet clock sender).told;
  accept = (accept_here p packet receiver store).told;
  receiver = (accept_here p packet receiver store).receiver;
  sender = (acks_here p packet clock sender).sender;
  store = (accept_here p packet receiver store).store;
}

unfoldable pub arrive_of : List ℕ → ℕ → Receiver → Sender → List ℕ → Arriving
arrive_of packet clock receiver sender store = arrives_by (read_of packet) packet clock receiver sender store

-- results of the code, as an outcome: an answer that was not asked for is none
abbrev pub said_acks : Option (Result ℕ Refusal) → List Said
said_acks None = []
said_acks (Some answer) = said_of answer ∷ []

abbrev pub said_accept : Option (Result (Unit {0}) Refusal) → List Said
said_accept None = []
said_accept (Some answer) = said answer ∷ []

abbrev pub acked_here : AckedHere → AcksHere
acked_here a = record { told = said_acks a.told; sender = a.sender }

abbrev pub accepted_here : AcceptedHere → List ℕ → AcceptHere
accepted_here a store = record { told = said_accept a.told; receiver = a.receiver; store = store }

abbrev pub arrived : Arrived → List ℕ → Arriving
arrived a store = record { read = said a.read; acks = said_acks a.acks; accept = said_accept a.accept; receiver = a.receiver; sender = a.sender; store = store }
