-- Demand 3 of document 01, as it is promised of every run.
use Rattle.std.specs.Prelude.{ℕ, ◌+◌, ◌≤◌, ◌<◌, ◌≡◌, Bool, true, false, ◌&&◌, not, List, [], ◌∷◌, ◌⊎◌, ◌↔◌, eqb, length}
use Rattle.std.proofs.Math.Option.{none, some}
use Rattle.std.proofs.Math.ListN.{get_elem?}
use Rattle.terms.specs.declared.StreamId.{StreamId}
use Rattle.terms.specs.Lists.{all, part}
use Rattle.packet_read.specs.Reading.{read_of, fields_of, nack_numbers_of}
use Rattle.terms.specs.Answers.{values}
use Rattle.receiver_calls.specs.Meaning.{standing, held, is_missing}
use Rattle.receiver_ack.specs.Missing.{is_among}
use Rattle.receiver_runs.specs.Runs.{acknowledge, Event, step_of, in_width, Run, history_of, end_of}
use Rattle.receiver_runs.specs.History.{Piece, accepted_in, taken_in, first_of, highest_of, refused_in}

-- accepted, with these bytes first
abbrev pub AcceptedWith : Run → ℕ → List ℕ → Type 0
AcceptedWith run n bytes = first_of n (accepted_in (history_of run)) ≡ some bytes

abbrev pub NeverAccepted : Run → ℕ → Type 0
NeverAccepted run n = first_of n (accepted_in (history_of run)) ≡ none

-- the highest accepted number, and s while there is none
abbrev pub highest_accepted : Run → ℕ
highest_accepted run = highest_of run.s.0 (accepted_in (history_of run))

-- the three places of a number: a take gave it,
abbrev pub Taken : Run → ℕ → Type 0
Taken run n = (bytes : List ℕ) × (first_of n (taken_in (history_of run)) ≡ some bytes)

-- it is held at the end, with these bytes,
abbrev pub HeldWith : Run → ℕ → List ℕ → Type 0
HeldWith run n bytes = standing (end_of run).state (end_of run).store n ≡ held bytes

abbrev pub Held : Run → ℕ → Type 0
Held run n = (bytes : List ℕ) × HeldWith run n bytes

-- or it is missing at the end
abbrev pub Missing : Run → ℕ → Type 0
Missing run n = is_missing (end_of run).state n ≡ true

-- one of three, and no other
pub data ExactlyOne (A B C : Type 0) : Type 0 where
  the_first : A → (B → ⊥) → (C → ⊥) → ExactlyOne A B C
  the_second : (A → ⊥) → B → (C → ⊥) → ExactlyOne A B C
  the_third : (A → ⊥) → (B → ⊥) → C → ExactlyOne A B C

-- 1. Nothing is lost: each number from s + 1 to the highest accepted is in exactly one place, taken, held or missing; it is missing exactly
-- if no packet of that number was ever accepted; only numbers in that range were accepted; and what is held is held with the bytes of
-- the first accepted packet of its number.
pub record NothingLost (run : Run) : Type 0 where
  pub one_place : (n : ℕ) → run.s.0 < n → n ≤ highest_accepted run → ExactlyOne (Taken run n) (Held run n) (Missing run n)
  pub missing_is : (n : ℕ) → run.s.0 < n → n ≤ highest_accepted run → Missing run n ↔ NeverAccepted run n
  pub in_range : (n : ℕ) (bytes : List ℕ) → AcceptedWith run n bytes → (run.s.0 < n) × (n ≤ highest_accepted run)
  pub held_first : (n : ℕ) (bytes : List ℕ) → HeldWith run n bytes → AcceptedWith run n bytes

-- 2. Nothing overtakes: the takes gave s + 1, s + 2 and on, each with exactly the bytes of the first accepted packet of that number, whatever
-- later packets of that number carried. Places in the list of takes count from 0.
pub record InOrder (run : Run) : Type 0 where
  pub as_numbered : (k : ℕ) (piece : Piece) → get_elem? (taken_in (history_of run)) k ≡ some piece → piece.number ≡ run.s.0 + 1 + k
  pub bytes_first : (k : ℕ) (piece : Piece) → get_elem? (taken_in (history_of run)) k ≡ some piece → AcceptedWith run piece.number piece.bytes
  -- and the next to take is the one behind the last taken
  pub next_is : (end_of run).state.head.next.0 ≡ run.s.0 + 1 + length (taken_in (history_of run))

-- what our reader finds in a packet: its ack-through, and its NACKs as numbers
abbrev pub through_in : List ℕ → ℕ
through_in packet = (fields_of packet).ack_through.0

abbrev pub nacks_in : List ℕ → List ℕ
nacks_in packet = nack_numbers_of packet

-- an acknowledgement asked at the end of a run, and its packet, which is as long as it answered and stands at the output's front
abbrev pub ack_of : Run → StreamId → StreamId → List ℕ → Event
ack_of run send recv output = (step_of (end_of run) (acknowledge send recv output)).event

abbrev pub ack_packet : Event → ℕ → List ℕ
ack_packet e size = part e.output 0 size

-- 3. Nothing is claimed that did not arrive: of every acknowledgement that is not refused, our reader reads the packet without refusal, and
-- finds that a number up to ack-through is absent from the NACKs exactly if it is at most s, taken or held. Every acknowledgement of a
-- run is asked at the end of the run before it.
pub record Honest (run : Run) (packet : List ℕ) : Type 0 where
  pub readable : read_of packet ≡ values (fields_of packet)
  pub absent_is : (n : ℕ) → n ≤ through_in packet → (is_among n (nacks_in packet) ≡ false) ↔ ((n ≤ run.s.0) ⊎ (Taken run n ⊎ Held run n))

-- The packet never exceeds 1,044 bytes, and an output that long always holds it.
pub record NothingHidden (run : Run) : Type 0 where
  pub honest : (send recv : StreamId) (output : List ℕ) (size : ℕ) → in_width (acknowledge send recv output) ≡ true
      → (ack_of run send recv output).answered ≡ values (size ∷ []) → Honest run (ack_packet (ack_of run send recv output) size)
  pub at_most_1044 : (send recv : StreamId) (output : List ℕ) (size : ℕ) → (ack_of run send recv output).answered ≡ values (size ∷ []) → size ≤ 1044
  pub always_fits : (send recv : StreamId) (output : List ℕ) → 1044 ≤ length output → (size : ℕ) × ((ack_of run send recv output).answered ≡ values (size ∷ []))

-- a refusal that blames neither the state's rules nor the sizes
abbrev pub blames_neither : ℕ → Bool
blames_neither why = not (eqb why 11) && not (eqb why 10)

-- 4. No call of a run is refused 11, and none 10; and the store keeps its length.
pub record NeverAtFault (run : Run) : Type 0 where
  pub never_11_or_10 : all blames_neither (refused_in (history_of run)) ≡ true
  pub store_length : length (end_of run).store ≡ length run.store

-- Demand 3: all of these. It is proved of every run (proofs/Delivery).
pub record Delivered (run : Run) : Type 0 where
  pub nothing_lost : NothingLost run
  pub in_order : InOrder run
  pub nothing_hidden : NothingHidden run
  pub never_at_fault : NeverAtFault run
