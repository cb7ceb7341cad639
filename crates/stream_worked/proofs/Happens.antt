-- The example is a run of both ends, joined; in it the number 1 is dropped, and so it is received. The definitions compute it. Assumes nothing.
use mathlib.Core.Path.{◌≡◌, refl}
use mathlib.Core.List.{[], ◌∷◌}
use mathlib.Core.List.Memᴰ
use native.Mathlib.Omega.{arith}
use Rattle.receiver_state.specs.Rules as Receivers
use Rattle.receiver_state.specs.Start as Receiver
use Rattle.receiver_calls.specs.Accept.{accept_said, entering, accept_of}
use Rattle.receiver_calls.specs.Take.{take_said, passing, take_of}
use Rattle.receiver_ack.specs.Missing.{missing_from}
use Rattle.receiver_ack.specs.Fields.{fields_from, nacks_from}
use Rattle.receiver_ack.specs.Acknowledge.{plain_ack, acknowledge_said, acknowledge_of}
use Rattle.packet_read.specs.Options.{after_destination, options_in}
use Rattle.packet_read.specs.Reading.{read_of}
use Rattle.packet_write.specs.Writing.{packet_bytes}
use Rattle.timer.specs.Timer.{sampled_of, rto_of, timing_fits}
use Rattle.timer.specs.Window.{grown_of}
use Rattle.sender_state.specs.Numbers.{run}
use Rattle.sender_state.specs.Rules as Senders
use Rattle.sender_state.specs.Start as Sender
use Rattle.sender_state.specs.Table.{replaced}
use Rattle.sender_send.specs.Send.{send_said, armed, send_of}
use Rattle.sender_acks.specs.Acks.{acks_refusal, acks_of}
use Rattle.sender_submit_answer.specs.Answer.{submit_said}
use Rattle.sender_submit.specs.Chunks.{stored_by}
use Rattle.sender_submit.specs.Submit.{submit_of}
use Rattle.sender_meaning.specs.Meaning.{standing}
use Rattle.stream_joined.specs.Moves.{sender_history, receiver_history}
use Rattle.stream_joined.specs.Wire.{packets_in, acks_in, Arrives, Returns, Joined}
use Rattle.stream_joined.specs.Forgotten.{Dropped, Received}
use Rattle.stream_joined.proofs.Remembered.{nothing_forgotten}
use Rattle.stream_counted.specs.Counted.{bytes_submitted}
use Rattle.stream_whole.specs.Whole.{taken}
use Rattle.stream_worked.specs.Example.{ends, one, packet, ack, sent, came_twice, moves}

-- what each end wrote
packets : packets_in (sender_history ends sent) ≡ packet ∷ []
unfolding Senders.sizes_fit Senders.counts_fit Senders.rules Senders.timer_fits Senders.clock_wrong Sender.start_said Receivers.rules_of Receivers.sizes_fit Receivers.slot_fits Receiver.start_said accept_said entering accept_of take_said passing take_of missing_from fields_from nacks_from plain_ack acknowledge_said acknowledge_of packet_bytes sampled_of rto_of timing_fits grown_of run replaced send_said armed send_of acks_refusal acks_of submit_said stored_by submit_of standing
packets = refl

acked : acks_in (receiver_history ends came_twice) ≡ ack ∷ []
unfolding Senders.sizes_fit Senders.counts_fit Senders.rules Senders.timer_fits Senders.clock_wrong Sender.start_said Receivers.rules_of Receivers.sizes_fit Receivers.slot_fits Receiver.start_said accept_said entering accept_of take_said passing take_of missing_from fields_from nacks_from plain_ack acknowledge_said acknowledge_of packet_bytes sampled_of rto_of timing_fits grown_of run replaced send_said armed send_of acks_refusal acks_of submit_said stored_by submit_of standing
acked = refl

-- and what is read in it
arrives : Arrives (packet ∷ []) one (65 ∷ [])
unfolding read_of options_in after_destination
arrives = record { packet = packet; was_written = Memᴰ.head refl; number_read = refl; payload_read = refl }

returns : Returns (ack ∷ []) 1 []
unfolding read_of options_in after_destination
returns = record { packet = ack; was_written = Memᴰ.head refl; through_read = refl; nacks_read = refl }

came : Arrives (packets_in (sender_history ends sent)) one (65 ∷ [])
came = rw packets arrives

back : Returns (acks_in (receiver_history ends came_twice)) 1 []
back = rw acked returns

pub joined : Joined ends moves
joined = record { truly = ((((((((tt, tt), tt), came), came), tt), back), back), tt); widths = refl }

-- number 1 is dropped, so it is received, by the theorem
dropped : Dropped ends moves 1
unfolding Senders.sizes_fit Senders.counts_fit Senders.rules Senders.timer_fits Senders.clock_wrong Sender.start_said Receivers.rules_of Receivers.sizes_fit Receivers.slot_fits Receiver.start_said accept_said entering accept_of take_said passing take_of missing_from fields_from nacks_from plain_ack acknowledge_said acknowledge_of packet_bytes sampled_of rto_of timing_fits grown_of run replaced send_said armed send_of acks_refusal acks_of submit_said stored_by submit_of standing
dropped = record { from_first = omega arith; not_there = refl }

pub received : Received ends moves 1
received = (nothing_forgotten ends moves joined).dropped_received 1 dropped

-- the byte is taken
pub byte_taken : taken ends moves ≡ 65 ∷ []
unfolding Senders.sizes_fit Senders.counts_fit Senders.rules Senders.timer_fits Senders.clock_wrong Sender.start_said Receivers.rules_of Receivers.sizes_fit Receivers.slot_fits Receiver.start_said accept_said entering accept_of take_said passing take_of missing_from fields_from nacks_from plain_ack acknowledge_said acknowledge_of packet_bytes sampled_of rto_of timing_fits grown_of run replaced send_said armed send_of acks_refusal acks_of submit_said stored_by submit_of standing
byte_taken = refl

-- and one byte counts as submitted
pub byte_submitted : bytes_submitted ends moves ≡ 1
unfolding Senders.sizes_fit Senders.counts_fit Senders.rules Senders.timer_fits Senders.clock_wrong Sender.start_said Receivers.rules_of Receivers.sizes_fit Receivers.slot_fits Receiver.start_said accept_said entering accept_of take_said passing take_of missing_from fields_from nacks_from plain_ack acknowledge_said acknowledge_of packet_bytes sampled_of rto_of timing_fits grown_of run replaced send_said armed send_of acks_refusal acks_of submit_said stored_by submit_of standing
byte_submitted = refl
