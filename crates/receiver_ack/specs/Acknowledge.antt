-- What acknowledge does, whatever it is given: its answer, and every byte of the output.
use Rattle.std.specs.Prelude.{ℕ, not, List, [], ◌∷◌, ltb, length, Result}
use Rattle.terms.specs.declared.StreamId.{StreamId}
use Rattle.terms.specs.Ladder.{◌when◌else◌}
use Rattle.terms.specs.Lists.{◌at_front_of◌}
use Rattle.terms.specs.declared.Refusal.{Refusal}
use Rattle.packet_write.specs.Writing.{packet_bytes}
use Rattle.packet_write.specs.declared.Fields.{Fields}
use Rattle.terms.specs.Answers.{Said, refusal, values, ◌unless_refused◌else◌, said_of}
use Rattle.receiver_state.specs.Rules.{rules_of, slot_fits}
use Rattle.receiver_state.specs.declared.Receiver.{Receiver}
use Rattle.receiver_ack.specs.Fields.{fields_from, nacks_from}
use Rattle.receiver_ack.specs.declared.AckFields.{AckFields}

-- a packet with a receiver's ack fields: both stream ids as given with the call, in wire order, the packet's number, resend delay 0
abbrev pub acked_fields : AckFields → StreamId → StreamId → ℕ → Fields
acked_fields acks send recv number = record {
  send_stream_id = send;
  recv_stream_id = recv;
  seq_nro = record { 0 = number };
  ack_through = acks.ack_through;
  resend_delay = 0;
  flags = acks.flags;
  delay = acks.delay;
  max_size = 0;
}

-- plain ack: sequence 0
abbrev pub plain_fields : AckFields → StreamId → StreamId → Fields
plain_fields acks send recv = acked_fields acks send recv 0

-- its bytes: no destination, no signature, no payload
unfoldable pub plain_ack : ℕ → ℕ → List ℕ → StreamId → StreamId → List ℕ
plain_ack next highest marks send recv = packet_bytes (plain_fields (fields_from next highest marks) send recv) (nacks_from next highest marks) [] [] []

-- what it says, and what it leaves of the output
pub record Acknowledges : Type 0 where
  pub says : Said
  pub output : List ℕ

module _ (r : Receiver) (send recv : StreamId) where
  abbrev pub plain_ack_of : List ℕ
  plain_ack_of = plain_ack r.head.next.0 r.head.highest.0 r.marks send recv

  -- the answer, by document 01's numbers in its order
  unfoldable pub acknowledge_said : ℕ → Said
  acknowledge_said room =
      -- state breaks the rules
      refusal 11 when not (rules_of r) else
      -- slot size wrong; no store is lent
      refusal 10 when not (slot_fits r.head.slot) else
      -- output shorter than needed, which is this ack's own length
      refusal 7 when ltb room (length plain_ack_of) else
      values (length plain_ack_of ∷ [])

  -- the whole outcome: where it is written, the packet stands at the output's front. The receiver is left as it was
  unfoldable pub acknowledge_of : List ℕ → Acknowledges
  acknowledge_of output =
      let answer = acknowledge_said (length output) in
      record {
        says = answer;
        output = plain_ack_of at_front_of output unless_refused answer else output;
      }

-- a result of the code, as an outcome: the answer is the packet's length
abbrev pub acknowledged : Result ℕ Refusal → List ℕ → Acknowledges
acknowledged answer output = record { says = said_of answer; output = output }
