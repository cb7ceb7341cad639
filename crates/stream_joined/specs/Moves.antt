-- One sender and one receiver: how both start, and what may be done at either, in any order.
use Rattle.std.specs.Prelude.{ℕ, ◌+◌, ◌≤◌, ◌^◌, ◌≡◌, Bool, true, ◌&&◌, List, [], ◌∷◌, ◌++◌, ltb, length}
use Rattle.terms.specs.declared.SeqNo.{SeqNo}
use Rattle.terms.specs.Answers.{values}
use Rattle.receiver_state.specs.Start as Receivers
use Rattle.receiver_runs.specs.Runs as R
use Rattle.sender_state.specs.Start as Senders
use Rattle.sender_runs.specs.Runs as S

-- how both ends start
pub record Ends : Type 0 where
  -- the sender, with this first number, chunks of this size, so many places, and this store
  pub first : SeqNo
  pub chunk : ℕ
  pub count : ℕ
  pub send_store : List ℕ
  pub sender_started : (Senders.start_of first chunk count (length send_store)).says ≡ values []
  pub first_width : ltb first.0 (2 ^ 32) ≡ true
  -- the receiver, after the sender's first number less one, with slots of at least the chunk size
  pub s : SeqNo
  pub slot : ℕ
  pub recv_store : List ℕ
  pub receiver_started : (Receivers.start_of s slot (length recv_store)).says ≡ values []
  pub one_less : s.0 + 1 ≡ first.0
  pub slot_holds : chunk ≤ slot

-- a move is any call at one of the two ends
pub data Move : Type 0 where
  at_sender : S.Call → Move
  at_receiver : R.Call → Move

infixl 20 ◌then◌
-- what was done at both ends, in its order
pub data Moves : Type 0 where
  nothing : Moves
  ◌then◌ : Moves → Move → Moves

-- the calls at each end,
abbrev pub sender_calls : Moves → List S.Call
sender_calls nothing = []
sender_calls (earlier then at_sender call) = sender_calls earlier ++ (call ∷ [])
sender_calls (earlier then at_receiver call) = sender_calls earlier

abbrev pub receiver_calls : Moves → List R.Call
receiver_calls nothing = []
receiver_calls (earlier then at_sender call) = receiver_calls earlier
receiver_calls (earlier then at_receiver call) = receiver_calls earlier ++ (call ∷ [])

-- what they left there, each being given the state and the store that the last one left,
abbrev pub sender_end : Ends → Moves → S.Kept
sender_end ends moves = S.kept_after (S.begun ends.first ends.chunk ends.count ends.send_store) (sender_calls moves)

abbrev pub receiver_end : Ends → Moves → R.Kept
receiver_end ends moves = R.kept_after (R.begun ends.s ends.slot ends.recv_store) (receiver_calls moves)

-- and what was asked and answered there
abbrev pub sender_history : Ends → Moves → List S.Event
sender_history ends moves = S.events_of (S.begun ends.first ends.chunk ends.count ends.send_store) (sender_calls moves)

abbrev pub receiver_history : Ends → Moves → List R.Event
receiver_history ends moves = R.events_of (R.begun ends.s ends.slot ends.recv_store) (receiver_calls moves)

-- A number of these definitions has no bound. One of the code is below 2^32, and only such stream ids, and such numbers, can be given to a call.
abbrev pub ids_fit : S.Call → Bool
ids_fit (S.submit r to from bytes) = ltb to.0 (2 ^ 32) && ltb from.0 (2 ^ 32)
ids_fit (S.send clock output) = true
ids_fit (S.acks through nacks clock) = true
ids_fit (S.resend clock path) = true
ids_fit (S.fetch rank output) = true

abbrev pub move_in_width : Move → Bool
move_in_width (at_sender call) = ids_fit call
move_in_width (at_receiver call) = R.in_width call

abbrev pub moves_in_width : Moves → Bool
moves_in_width nothing = true
moves_in_width (earlier then move) = moves_in_width earlier && move_in_width move
