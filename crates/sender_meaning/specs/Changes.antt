-- What is promised of each call in the meaning's words: what a submit, a send, acks, a resend and a fetch that are done change, and what a stored packet
-- reads as. Proved in proofs/.
use Rattle.std.specs.Prelude.{ℕ, ◌+◌, ◌≤◌, ◌<◌, ◌≡◌, Bool, true, false, List, [], ◌∷◌, length, get_or}
use Rattle.terms.specs.declared.StreamId.{StreamId}
use Rattle.terms.specs.Lists.{◌at_front_of◌}
use Rattle.terms.specs.Answers.{values}
use Rattle.wire.specs.BigEndian.{numbers_at}
use Rattle.packet_read.specs.Flags.{bit}
use Rattle.packet_read.specs.Reading.{nack_count, read_of, fields_of, payload_of, destination_of, signature_of}
use Rattle.receiver_state.specs.declared.Receiver.{Receiver}
use Rattle.receiver_ack.specs.Fields.{ack_fields_of, ack_nacks_of, ack_through_of}
use Rattle.sender_state.specs.Table.{◌!◌, place_of}
use Rattle.sender_state.specs.Numbers.{in_flight, size_of}
use Rattle.sender_state.specs.declared.Sender.{Sender}
use Rattle.sender_send.specs.Send.{send_of}
use Rattle.sender_send.specs.Fetch.{fetch_of}
use Rattle.sender_acks.specs.Acks.{acked_of, acks_of}
use Rattle.sender_resend.specs.Resend.{resend_count, resend_of}
use Rattle.sender_submit.specs.Chunks.{Stored}
use Rattle.sender_meaning.specs.Meaning.{waits, flies, standing, does_wait, Sound}
use Rattle.sender_meaning.specs.Steps.{sent_as, acked_as, goes_again, resent_as, submitted_as, is_outside}

-- what so many packets more leave: a state and a store that belong together, every number's standing, and every byte that is none of theirs
pub record Stores (packet : ℕ → List ℕ → List ℕ) (count : ℕ) (bytes : List ℕ) (s : Sender) (store : List ℕ) (after : Stored) : Type 0 where
  pub sound : Sound after.state after.store
  pub next_is : after.state.next.0 ≡ s.next.0 + count
  pub chunk_is : after.state.chunk ≡ s.chunk
  pub count_is : after.state.count ≡ s.count
  pub window_is : after.state.window ≡ s.window
  pub timing_is : after.state.timing ≡ s.timing
  pub timer_is : after.state.timer ≡ s.timer
  pub clock_is : after.state.clock ≡ s.clock
  pub means : (n : ℕ) → standing after.state after.store n ≡ submitted_as packet s.chunk s.next.0 count bytes n (standing s store n)
  pub place_is : (n : ℕ) → (n ≡ 0 → ⊥) → n < s.next.0 → place_of after.state.numbers n ≡ place_of s.numbers n
  pub size_is : (n : ℕ) → (n ≡ 0 → ⊥) → n < s.next.0 → size_of after.state n ≡ size_of s n
  pub long : length after.store ≡ length store
  pub byte_is : (k : ℕ) → ((n : ℕ) → s.next.0 ≤ n → n < s.next.0 + count → is_outside after.state n k ≡ true) → get_or after.store k 0 ≡ get_or store k 0

-- What our reader finds in the packet p of a number and a chunk, with the ack fields of the receiver r.
pub record ReadsAsData (r : Receiver) (send recv : StreamId) (number : ℕ) (payload p : List ℕ) : Type 0 where
  pub readable : read_of p ≡ values (fields_of p)
  pub send_read : (fields_of p).send_stream_id.0 ≡ send.0
  pub recv_read : (fields_of p).recv_stream_id.0 ≡ recv.0
  pub number_read : (fields_of p).seq_nro.0 ≡ number
  pub through_read : (fields_of p).ack_through.0 ≡ ack_through_of r
  pub count_read : nack_count p ≡ length (ack_nacks_of r)
  pub nacks_read : numbers_at 4 (nack_count p) 17 p ≡ ack_nacks_of r
  pub flags_read : (fields_of p).flags ≡ (ack_fields_of r).flags
  -- NO ACK is clear: its ack fields count
  pub acks_count : bit 10 (fields_of p).flags ≡ false
  pub payload_read : payload_of p ≡ payload
  pub resend_delay_read : (fields_of p).resend_delay ≡ 0
  pub delay_read : (fields_of p).delay ≡ (ack_fields_of r).delay
  pub max_size_read : (fields_of p).max_size ≡ 0
  pub no_destination_there : destination_of p ≡ []
  pub no_signature : signature_of p ≡ []
  pub no_leftover : (fields_of p).leftover ≡ 0

-- what a send that is done changes: the lowest number that waits, of which its packet stands at the output's front, flies from the clock on, and
-- every other number stands as it stood
pub record Departs (s : Sender) (clock : ℕ) (store output given : List ℕ) : Type 0 where
  pub told : ℕ
  pub packet : List ℕ
  pub gives : given ≡ told ∷ length packet ∷ []
  pub was : standing s store told ≡ waits packet
  pub lowest : (n : ℕ) → does_wait (standing s store n) ≡ true → told ≤ n
  pub output_is : (send_of s clock store output).lent ≡ packet at_front_of output
  pub now_is : (n : ℕ) → standing (send_of s clock store output).state store n ≡ sent_as told clock n (standing s store n)
  pub next_is : (send_of s clock store output).state.next ≡ s.next
  pub chunk_is : (send_of s clock store output).state.chunk ≡ s.chunk
  pub count_is : (send_of s clock store output).state.count ≡ s.count
  pub clock_is : (send_of s clock store output).state.clock ≡ clock
  pub later : s.clock ≤ clock
  pub room : length (in_flight s) < s.window

-- what acks that are done change
pub record LeavesFlight (s : Sender) (through : ℕ) (nacks : List ℕ) (clock : ℕ) (store given : List ℕ) : Type 0 where
  pub gives : given ≡ length (acked_of s through nacks) ∷ []
  pub now_is : (n : ℕ) → standing (acks_of s through nacks clock).state store n ≡ acked_as through nacks n (standing s store n)
  pub next_is : (acks_of s through nacks clock).state.next ≡ s.next
  pub chunk_is : (acks_of s through nacks clock).state.chunk ≡ s.chunk
  pub count_is : (acks_of s through nacks clock).state.count ≡ s.count
  pub clock_is : (acks_of s through nacks clock).state.clock ≡ clock
  pub later : s.clock ≤ clock
  pub within : through ≤ s.next.0
  pub few : length nacks ≤ 255

-- what a resend that is done changes
pub record GoesAgain (s : Sender) (clock : ℕ) (path : Bool) (store given : List ℕ) : Type 0 where
  pub gives : given ≡ resend_count s clock path ∷ []
  pub now_is : (n : ℕ) → standing (resend_of s clock path).state store n ≡ resent_as (goes_again s clock path) clock n (standing s store n)
  pub next_is : (resend_of s clock path).state.next ≡ s.next
  pub chunk_is : (resend_of s clock path).state.chunk ≡ s.chunk
  pub count_is : (resend_of s clock path).state.count ≡ s.count
  pub clock_is : (resend_of s clock path).state.clock ≡ clock
  pub later : s.clock ≤ clock

-- what a fetch that is done gives
pub record Fetched (s : Sender) (rank : ℕ) (store output given : List ℕ) : Type 0 where
  pub packet : List ℕ
  pub sent : ℕ
  pub inside : rank < length (in_flight s)
  pub is : standing s store (in_flight s ! rank) ≡ flies packet sent
  pub gives : given ≡ length packet ∷ []
  pub output_is : (fetch_of s rank store output).output ≡ packet at_front_of output
