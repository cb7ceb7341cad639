-- What follows for a user of one sender and one receiver that are joined: what the takes gave, joined, is the beginning of what was submitted, joined; and where
-- nothing waits or flies, every byte that was submitted is held or taken.
use Rattle.std.specs.Prelude.{ℕ, ◌≤◌, ◌<◌, ◌≡◌, false, List, [], ◌∷◌, ◌++◌, ◌⊎◌}
use mathlib.Core.List.{Memᴰ as IsOneOf}
use Rattle.terms.specs.Answers.{Said, refusal, values, ◌unless_refused◌else◌}
use Rattle.packet_read.specs.Reading.{read_of, fields_of, payload_of}
use Rattle.receiver_runs.specs.Runs as R
use Rattle.receiver_runs.specs.History.{Piece, taken_in}
use Rattle.sender_meaning.specs.Meaning.{standing, does_wait, does_fly}
use Rattle.sender_runs.specs.Runs as S
use Rattle.stream_joined.specs.Moves.{Ends, Moves, sender_end, receiver_end, sender_history, receiver_history}
use Rattle.stream_joined.specs.Wire.{packets_in}
use Rattle.stream_joined.specs.Forgotten.{Received}

-- a submit that was done took its bytes
abbrev pub bytes_by : S.Call → Said → List ℕ
bytes_by (S.submit r to from bytes) says = bytes unless_refused says else []
bytes_by (S.send clock output) says = []
bytes_by (S.acks through nacks clock) says = []
bytes_by (S.resend clock path) says = []
bytes_by (S.fetch rank output) says = []

-- the bytes submitted, joined
abbrev pub bytes_in : List S.Event → List ℕ
bytes_in [] = []
bytes_in (e ∷ rest) = bytes_by e.asked e.answered ++ bytes_in rest

-- the bytes of pieces, joined
abbrev pub pieces_joined : List Piece → List ℕ
pieces_joined [] = []
pieces_joined (piece ∷ rest) = piece.bytes ++ pieces_joined rest

module _ (ends : Ends) (moves : Moves) where
  -- what was submitted, and what the takes gave
  abbrev pub submitted : List ℕ
  submitted = bytes_in (sender_history ends moves)

  abbrev pub taken : List ℕ
  taken = pieces_joined (taken_in (receiver_history ends moves))

  -- the next number that the sender gives, and the next that the receiver takes
  abbrev pub sender_next : ℕ
  sender_next = (sender_end ends moves).state.next.0

  abbrev pub receiver_next : ℕ
  receiver_next = (receiver_end ends moves).state.head.next.0

  -- no number waits, and none flies
  abbrev pub NothingLeft : Type 0
  NothingLeft = (n : ℕ) → (does_wait (standing (sender_end ends moves).state (sender_end ends moves).store n) ≡ false)
      × (does_fly (standing (sender_end ends moves).state (sender_end ends moves).store n) ≡ false)

  pub record WholeAndInOrder : Type 0 where
    -- at any time what was taken is the beginning of what was submitted,
    pub takes_begin : (rest : List ℕ) × (submitted ≡ taken ++ rest)
    -- and all of it where the next number to take is the sender's next
    pub takes_all : receiver_next ≡ sender_next → taken ≡ submitted
    -- where nothing waits or flies, every number that the sender gave is held or taken, with the bytes submitted
    pub all_received : NothingLeft → (n : ℕ) → ends.first.0 ≤ n → n < sender_next → Received ends moves n

  -- what accept would answer to a packet now
  abbrev pub answer_to : List ℕ → Said
  answer_to packet = (R.step_of (receiver_end ends moves) (R.accept (fields_of packet).seq_nro (payload_of packet))).event.answered

  -- A packet that arrives reads without refusal, and it is accepted, or its number was received before, or lies 512 or more above the next to take (14): since no
  -- chunk is longer than a slot, none is refused for its length.
  pub record NoneTurnedAway : Type 0 where
    pub reads : (packet : List ℕ) → IsOneOf packet (packets_in (sender_history ends moves)) → read_of packet ≡ values (fields_of packet)
    pub counts : (packet : List ℕ) → IsOneOf packet (packets_in (sender_history ends moves))
        → (answer_to packet ≡ values []) ⊎ (Received ends moves (fields_of packet).seq_nro.0 ⊎ (answer_to packet ≡ refusal 14))
