-- What the steps of submit ask: ack fields that the writer takes, and room for the packets.
use Rattle.std.specs.Prelude.{ℕ, ◌+◌, ◌*◌, ◌^◌, ◌≤◌, ◌≡◌, Bool, List, [], eqb, length}
use Rattle.terms.specs.Ladder.{◌when◌else◌}
use Rattle.terms.specs.declared.StreamId.{StreamId}
use Rattle.packet_write.specs.Writing.{packet_bytes}
use Rattle.receiver_ack.specs.Acknowledge.{acked_fields}
use Rattle.receiver_ack.specs.declared.AckFields.{AckFields}
use Rattle.sender_state.specs.declared.Sender.{Sender}
use Rattle.sender_submit_answer.specs.Answer.{free_of}

-- the packet of a chunk, with ack fields and NACKs in hand
abbrev pub acked_packet : AckFields → List ℕ → StreamId → StreamId → ℕ → List ℕ → List ℕ
acked_packet acks nacks send recv number payload = packet_bytes (acked_fields acks send recv number) nacks [] [] payload

-- the other side is asked to stop for now
abbrev pub chokes : AckFields → Bool
chokes acks = eqb acks.delay 60001

-- ack fields and NACKs as every receiver gives them: at most 255 NACKs, and one test that decides flag bit 6 and the delay
pub record Acking (acks : AckFields) (nacks : List ℕ) : Type 0 where
  pub few : length nacks ≤ 255
  pub flags : acks.flags ≡ (2 ^ 6 when chokes acks else 0)
  pub delay : acks.delay ≡ (60001 when chokes acks else 0)

-- a state and its store have room for so many packets, and numbers for them
pub record Roomy (s : Sender) (packets store_length : ℕ) : Type 0 where
  pub chunk_most : s.chunk ≤ 1812
  pub count_most : s.count ≤ 192
  pub store : store_length ≡ s.count * (s.chunk + 1044)
  pub free : packets ≤ free_of s
  pub numbered : s.next.0 + packets ≤ 4294967295
