-- What submit stores: the bytes in chunks of C, a packet for each, in the lowest free places, ascending.
use Rattle.std.specs.Prelude.{ℕ, zero, suc, ◌+◌, List, [], ◌++◌, length, take, drop}
use Rattle.terms.specs.Lists.{◌at_front_of◌}
use Rattle.terms.specs.declared.StreamId.{StreamId}
use Rattle.packet_write.specs.Writing.{packet_bytes}
use Rattle.receiver_state.specs.declared.Receiver.{Receiver}
use Rattle.receiver_ack.specs.Fields.{ack_fields_of, ack_nacks_of}
use Rattle.receiver_ack.specs.Acknowledge.{acked_fields}
use Rattle.sender_state.specs.Table.{place_of}
use Rattle.sender_state.specs.Places.{places_of, joining, state_of}
use Rattle.sender_state.specs.declared.Sender.{Sender}
use Rattle.sender_state.specs.Numbers.{offset_of}

-- the packet of a chunk: ids, resend delay, ack fields and delay option as in the plain ack of the receiver given, and its own number
abbrev pub data_packet : Receiver → StreamId → StreamId → ℕ → List ℕ → List ℕ
data_packet r send recv number payload = packet_bytes (acked_fields (ack_fields_of r) send recv number) (ack_nacks_of r) [] [] payload

-- the lowest free place
abbrev pub lowest_free : Sender → ℕ
lowest_free s = place_of s.marks 0

-- a state with a packet so long in its lowest free place, waiting under the next number
abbrev pub joined_by : Sender → ℕ → Sender
joined_by s size =
    state_of s.chunk s.count (s.next.0 + 1) s.window s.timing s.timer s.clock (joining (places_of s) (lowest_free s) s.next.0 size)

-- a store with a packet at the front of a place, and nothing else touched
abbrev pub laid_at : ℕ → ℕ → List ℕ → List ℕ → List ℕ
laid_at chunk place packet store = take (offset_of chunk place) store ++ (packet at_front_of drop (offset_of chunk place) store)

-- a state and its store
pub record Stored : Type 0 where
  pub state : Sender
  pub store : List ℕ

-- so many chunks, the first first, each stored as the packet that `packet` makes of its number and the chunk
unfoldable pub stored_by : (ℕ → List ℕ → List ℕ) → ℕ → List ℕ → Sender → List ℕ → Stored
stored_by packet zero bytes s store = record { state = s; store = store }
stored_by packet (suc left) bytes s store =
    let made = packet s.next.0 (take s.chunk bytes) in
    stored_by packet left (drop s.chunk bytes) (joined_by s (length made)) (laid_at s.chunk (lowest_free s) made store)
