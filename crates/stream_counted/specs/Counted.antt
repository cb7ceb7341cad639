-- The bytes that were submitted, those that wait, those in flight and those acknowledged, each counted; and what is promised of every run of a sender and a
-- receiver that are joined: none is counted twice, and none is left out.
use Rattle.std.specs.Prelude.{ℕ, zero, suc, ◌+◌, ◌≡◌, List, length}
use Rattle.terms.specs.Ladder.{◌when◌else◌}
use Rattle.terms.specs.Answers.{Said, ◌unless_refused◌else◌}
use Rattle.packet_read.specs.Reading.{payload_of}
use Rattle.sender_meaning.specs.Meaning.{Standing, unmade, waits, flies, gone, standing}
use Rattle.sender_meaning.specs.Steps.{is_named}
use Rattle.sender_runs.specs.Runs.{Call, submit, send, acks, resend, fetch, Kept, step_of}
use Rattle.stream_joined.specs.Moves.{Ends, at_sender, at_receiver, Moves, nothing, ◌then◌, sender_end}

-- what so many numbers count for, from one of them on
abbrev pub total : (ℕ → ℕ) → ℕ → ℕ → ℕ
total f from zero = 0
total f from (suc left) = f from + total f (suc from) left

-- the bytes of a number that waits, which are its packet's payload, and those of one that flies
abbrev pub waiting_in : Standing → ℕ
waiting_in (waits packet) = length (payload_of packet)
waiting_in unmade = 0
waiting_in (flies packet sent) = 0
waiting_in gone = 0

abbrev pub flying_in : Standing → ℕ
flying_in (flies packet sent) = length (payload_of packet)
flying_in unmade = 0
flying_in (waits packet) = 0
flying_in gone = 0

module _ (kept : Kept) where
  abbrev pub standing_in : ℕ → Standing
  standing_in n = standing kept.state kept.store n

  -- over every number below next
  abbrev pub over_all : (ℕ → ℕ) → ℕ
  over_all f = total f 0 kept.state.next.0

  -- the bytes that wait, and those in flight
  abbrev pub bytes_waiting : ℕ
  bytes_waiting = over_all (λ n. waiting_in (standing_in n))

  abbrev pub bytes_in_flight : ℕ
  bytes_in_flight = over_all (λ n. flying_in (standing_in n))

  -- those in flight that an ack names
  abbrev pub bytes_named : ℕ → List ℕ → ℕ
  bytes_named through nacks = over_all (λ n. flying_in (standing_in n) when is_named through nacks n else 0)

-- a submit that is done takes its bytes,
abbrev pub submitted_by : Call → Said → ℕ
submitted_by (submit r to from bytes) says = length bytes unless_refused says else 0
submitted_by (send clock output) says = 0
submitted_by (acks through nacks clock) says = 0
submitted_by (resend clock path) says = 0
submitted_by (fetch rank output) says = 0

-- and acks that are accepted acknowledge the bytes in flight that they name
abbrev pub acknowledged_by : Kept → Call → Said → ℕ
acknowledged_by kept (acks through nacks clock) says = bytes_named kept through nacks unless_refused says else 0
acknowledged_by kept (submit r to from bytes) says = 0
acknowledged_by kept (send clock output) says = 0
acknowledged_by kept (resend clock path) says = 0
acknowledged_by kept (fetch rank output) says = 0

-- summed over the calls at the sender, each in the state that it met
abbrev pub bytes_submitted : Ends → Moves → ℕ
bytes_submitted ends nothing = 0
bytes_submitted ends (earlier then at_receiver call) = bytes_submitted ends earlier
bytes_submitted ends (earlier then at_sender call) =
    bytes_submitted ends earlier + submitted_by call (step_of (sender_end ends earlier) call).event.answered

abbrev pub bytes_acknowledged : Ends → Moves → ℕ
bytes_acknowledged ends nothing = 0
bytes_acknowledged ends (earlier then at_receiver call) = bytes_acknowledged ends earlier
bytes_acknowledged ends (earlier then at_sender call) =
    bytes_acknowledged ends earlier + acknowledged_by (sender_end ends earlier) call (step_of (sender_end ends earlier) call).event.answered

-- 2. The bytes submitted equal those waiting, in flight and acknowledged, the last summed over the history of accepted acks.
pub record EveryByteCounted (ends : Ends) (moves : Moves) : Type 0 where
  pub adds_up : bytes_submitted ends moves ≡ bytes_waiting (sender_end ends moves) + bytes_in_flight (sender_end ends moves) + bytes_acknowledged ends moves
