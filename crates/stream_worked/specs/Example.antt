-- A run in which something happens: a byte is submitted and sent; its packet arrives, and arrives again; the receiver acknowledges, and the ack comes back
-- twice; then the byte is taken. So what is promised of every run of a sender and a receiver that are joined is promised of something.
use Rattle.std.specs.Prelude.{ℕ, refl, List, [], ◌∷◌, replicate}
use Rattle.std.proofs.Common.{arith}
use Rattle.terms.specs.declared.SeqNo.{SeqNo}
use Rattle.terms.specs.declared.StreamId.{StreamId}
use Rattle.receiver_state.specs.Rules.{slot_fits}
use Rattle.receiver_state.specs.Rules as Receivers
use Rattle.receiver_state.specs.Start as Receiver
use Rattle.receiver_state.specs.Start.{fresh}
use Rattle.receiver_runs.specs.Runs.{accept, take, acknowledge}
use Rattle.sender_state.specs.Rules.{sizes_fit, counts_fit}
use Rattle.sender_state.specs.Start as Sender
use Rattle.sender_runs.specs.Runs.{submit, send, acks}
use Rattle.stream_joined.specs.Moves.{Ends, Moves, nothing, ◌then◌, at_sender, at_receiver}

abbrev pub ends : Ends
unfolding sizes_fit counts_fit Sender.start_said Receivers.sizes_fit slot_fits Receiver.start_said
ends = record {
  -- the first number 1, chunks of one byte, one place
  first = record { 0 = 1 };
  chunk = 1;
  count = 1;
  send_store = replicate 1045 0;
  sender_started = refl;
  first_width = refl;
  -- after 0, slots of one byte
  s = record { 0 = 0 };
  slot = 1;
  recv_store = replicate 512 0;
  receiver_started = refl;
  one_less = refl;
  slot_holds = omega arith;
}

abbrev pub id : StreamId
id = record { 0 = 7 }

-- the packet: both ids, number 1, ack-through 0, no NACK, resend delay, flags and option length 0, and the byte
abbrev pub packet : List ℕ
packet = 0 ∷ 0 ∷ 0 ∷ 7 ∷ 0 ∷ 0 ∷ 0 ∷ 7 ∷ 0 ∷ 0 ∷ 0 ∷ 1 ∷ 0 ∷ 0 ∷ 0 ∷ 0 ∷ 0 ∷ 0 ∷ 0 ∷ 0 ∷ 0 ∷ 0 ∷ 65 ∷ []

-- the ack: number 0, ack-through 1
abbrev pub ack : List ℕ
ack = 0 ∷ 0 ∷ 0 ∷ 7 ∷ 0 ∷ 0 ∷ 0 ∷ 7 ∷ 0 ∷ 0 ∷ 0 ∷ 0 ∷ 0 ∷ 0 ∷ 0 ∷ 1 ∷ 0 ∷ 0 ∷ 0 ∷ 0 ∷ 0 ∷ 0 ∷ []

abbrev pub one : SeqNo
one = record { 0 = 1 }

abbrev pub sent : Moves
sent = nothing then at_sender (submit (fresh (record { 0 = 0 }) 1) id id (65 ∷ [])) then at_sender (send 10 (replicate 25 9))

abbrev pub came_twice : Moves
came_twice = sent then at_receiver (accept one (65 ∷ [])) then at_receiver (accept one (65 ∷ [])) then at_receiver (acknowledge id id (replicate 25 9))

abbrev pub moves : Moves
moves = came_twice then at_sender (acks 1 [] 20) then at_sender (acks 1 [] 30) then at_receiver (take (replicate 5 9))
