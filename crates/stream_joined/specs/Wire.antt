-- What goes between one sender and one receiver that are joined: packets one way and plain acks the other. Each may be lost, late, repeated or out of order,
-- but it is not altered, and it was truly written earlier by the other end.
use Rattle.std.specs.Prelude.{ℕ, ◌≡◌, true, List, [], ◌∷◌, ◌++◌, get_or}
use mathlib.Core.List.{Memᴰ as IsOneOf}
use Rattle.terms.specs.declared.SeqNo.{SeqNo}
use Rattle.terms.specs.Lists.{part}
use Rattle.terms.specs.Answers.{Said, refusal, values}
use Rattle.packet_read.specs.Reading.{fields_of, payload_of}
use Rattle.receiver_runs.specs.Runs as R
use Rattle.receiver_runs.specs.Delivered.{through_in, nacks_in}
use Rattle.sender_runs.specs.Runs as S
use Rattle.stream_joined.specs.Moves.{Ends, Move, at_sender, at_receiver, Moves, nothing, ◌then◌, sender_history, receiver_history, moves_in_width}

-- WHAT IS WRITTEN

-- a send or a fetch that was done wrote a packet: its output's front, as long as was answered. A send answers its number and the length, a fetch the length.
abbrev pub packet_by : S.Call → Said → List ℕ → List (List ℕ)
packet_by (S.send clock room) (values given) output = part output 0 (get_or given 1 0) ∷ []
packet_by (S.send clock room) (refusal why) output = []
packet_by (S.fetch rank room) (values given) output = part output 0 (get_or given 0 0) ∷ []
packet_by (S.fetch rank room) (refusal why) output = []
packet_by (S.submit r to from bytes) says output = []
packet_by (S.acks through nacks clock) says output = []
packet_by (S.resend clock path) says output = []

abbrev pub packets_in : List S.Event → List (List ℕ)
packets_in [] = []
packets_in (e ∷ rest) = packet_by e.asked e.answered e.output ++ packets_in rest

-- and an acknowledge that was done an ack
abbrev pub ack_by : R.Call → Said → List ℕ → List (List ℕ)
ack_by (R.acknowledge send recv room) (values given) output = part output 0 (get_or given 0 0) ∷ []
ack_by (R.acknowledge send recv room) (refusal why) output = []
ack_by (R.accept number payload) says output = []
ack_by (R.take room) says output = []

abbrev pub acks_in : List R.Event → List (List ℕ)
acks_in [] = []
acks_in (e ∷ rest) = ack_by e.asked e.answered e.output ++ acks_in rest

-- WHAT IS HANDED OVER

-- a packet arrives: one of those that were written, and it is read for its number and its payload
pub record Arrives (written : List (List ℕ)) (number : SeqNo) (payload : List ℕ) : Type 0 where
  pub packet : List ℕ
  pub was_written : IsOneOf packet written
  pub number_read : number ≡ (fields_of packet).seq_nro
  pub payload_read : payload ≡ payload_of packet

-- an ack arrives: one of those that were written, and it is read for its ack-through and its NACKs
pub record Returns (written : List (List ℕ)) (through : ℕ) (nacks : List ℕ) : Type 0 where
  pub packet : List ℕ
  pub was_written : IsOneOf packet written
  pub through_read : through ≡ through_in packet
  pub nacks_read : nacks ≡ nacks_in packet

-- acks are given an ack that arrives; the other calls at the sender are given anything
abbrev pub HandedToSender : List (List ℕ) → S.Call → Type 0
HandedToSender written (S.acks through nacks clock) = Returns written through nacks
HandedToSender written (S.submit r to from bytes) = Unit {0}
HandedToSender written (S.send clock output) = Unit {0}
HandedToSender written (S.resend clock path) = Unit {0}
HandedToSender written (S.fetch rank output) = Unit {0}

-- accept is given a packet that arrives; the other calls at the receiver are given anything
abbrev pub HandedToReceiver : List (List ℕ) → R.Call → Type 0
HandedToReceiver written (R.accept number payload) = Arrives written number payload
HandedToReceiver written (R.take output) = Unit {0}
HandedToReceiver written (R.acknowledge send recv output) = Unit {0}

-- what arrives was written before it by the other end: a packet by the sender, and an ack by the receiver
abbrev pub Handed : Ends → Moves → Move → Type 0
Handed ends earlier (at_sender call) = HandedToSender (acks_in (receiver_history ends earlier)) call
Handed ends earlier (at_receiver call) = HandedToReceiver (packets_in (sender_history ends earlier)) call

abbrev pub TrulyWritten : Ends → Moves → Type 0
TrulyWritten ends nothing = Unit {0}
TrulyWritten ends (earlier then move) = TrulyWritten ends earlier × Handed ends earlier move

-- these moves are a run of both ends, joined
pub record Joined (ends : Ends) (moves : Moves) : Type 0 where
  pub truly : TrulyWritten ends moves
  pub widths : moves_in_width moves ≡ true
