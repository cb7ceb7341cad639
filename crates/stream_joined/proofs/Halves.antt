-- Each half of a joined run is a run of its own. With one move more, the half of that move has one call more, and the other half is as it was. Assumes nothing.
use Prim.Native.Nat.{ℕ, ◌^◌}
use mathlib.Core.Path.{◌≡◌, refl, ◌∙◌, ap}
use mathlib.Core.Bool.{true, ◌||◌}
use mathlib.Core.List.{List, [], ◌∷◌, ◌++◌}
use mathlib.Core.Option.{or_else}
use native.Mathlib.Omega.{arith}
use borrow.Author.Tests.{lt-ltb, ltb-true}
use lib.Dec.{ltb}
use Rattle.terms.proofs.Laws.{and_left, and_right, and_both}
use Rattle.receiver_runs.specs.Runs as R
use Rattle.receiver_runs.specs.History.{accepted_in}
use Rattle.receiver_runs.proofs.More.{events_more, widths_more, accepted_more}
use Rattle.sender_runs.specs.Runs as S
use Rattle.sender_runs.specs.Remembers.{made_by, made_in, named_in, made}
use Rattle.sender_runs.proofs.More as Sends
use Rattle.stream_joined.specs.Moves.{Ends, Move, at_sender, at_receiver, Moves, nothing, ◌then◌, sender_calls, receiver_calls, sender_end, receiver_end, sender_history, receiver_history, move_in_width, moves_in_width}
use Rattle.stream_joined.specs.Wire.{Joined}
use Rattle.stream_joined.specs.Forgotten.{chunk_by, chunk_in, submitted_at}

-- the sender's half
abbrev pub sender_run : Ends → Moves → S.Run
sender_run ends moves = record {
  first = ends.first;
  chunk = ends.chunk;
  count = ends.count;
  store = ends.send_store;
  started = ends.sender_started;
  width = ends.first_width;
  calls = sender_calls moves;
}

pub calls_fit : (moves : Moves) → moves_in_width moves ≡ true → R.all_in_width (receiver_calls moves) ≡ true
calls_fit nothing w = refl
calls_fit (earlier then at_sender call) w = calls_fit earlier (and_left (moves_in_width earlier) (move_in_width (at_sender call)) w)
calls_fit (earlier then at_receiver call) w =
    widths_more call (receiver_calls earlier) (calls_fit earlier (and_left (moves_in_width earlier) (R.in_width call) w)) (and_right (moves_in_width earlier) (R.in_width call) w)

-- and the receiver's
abbrev pub receiver_run : (ends : Ends) (moves : Moves) → moves_in_width moves ≡ true → R.Run
receiver_run ends moves wide = record {
  s = ends.s;
  slot = ends.slot;
  store = ends.recv_store;
  started = ends.receiver_started;
  calls = receiver_calls moves;
  widths = and_both (ltb ends.s.0 (2 ^ 32)) (R.all_in_width (receiver_calls moves))
      (lt-ltb ends.s.0 (2 ^ 32) (omega (arith, ends.one_less, ltb-true ends.first.0 (2 ^ 32) ends.first_width))) (calls_fit moves wide);
}

-- the beginning of a joined run is a joined run
pub earlier_joined : (ends : Ends) (earlier : Moves) (move : Move) → Joined ends (earlier then move) → Joined ends earlier
earlier_joined ends earlier move j = record { truly = j.truly.0; widths = and_left (moves_in_width earlier) (move_in_width move) j.widths }

-- ONE CALL MORE AT THE SENDER

chunk_more : (chunk n : ℕ) (h rest : List S.Event) → chunk_in chunk n (h ++ rest) ≡ or_else (chunk_in chunk n h) (chunk_in chunk n rest)
unfolding or_else
chunk_more chunk n [] rest = refl
chunk_more chunk n (e ∷ h) rest =
    rw (chunk_more chunk n h rest) (Sends.or_else_assoc (chunk_by chunk n e.asked e.next e.answered) (chunk_in chunk n h) (chunk_in chunk n rest))

module _ (ends : Ends) (earlier : Moves) (call : S.Call) where
  abbrev pub sent_event : S.Event
  sent_event = (S.step_of (sender_end ends earlier) call).event

  pub sent_more : sender_history ends (earlier then at_sender call) ≡ sender_history ends earlier ++ (sent_event ∷ [])
  sent_more = Sends.events_more call (S.begun ends.first ends.chunk ends.count ends.send_store) (sender_calls earlier)

  pub sender_more : sender_end ends (earlier then at_sender call) ≡ (S.step_of (sender_end ends earlier) call).kept
  sender_more = Sends.kept_more call (S.begun ends.first ends.chunk ends.count ends.send_store) (sender_calls earlier)

  pub made_on : (n : ℕ) → made (sender_run ends (earlier then at_sender call)) n
      ≡ or_else (made (sender_run ends earlier) n) (made_by ends.chunk n sent_event.asked sent_event.next sent_event.answered)
  made_on n =
      ap (made_in ends.chunk n) sent_more ∙ Sends.made_more ends.chunk n (sender_history ends earlier) (sent_event ∷ [])
      ∙ ap (or_else (made (sender_run ends earlier) n)) (Sends.or_else_none (made_by ends.chunk n sent_event.asked sent_event.next sent_event.answered))

  pub submitted_on : (n : ℕ) → submitted_at ends (earlier then at_sender call) n
      ≡ or_else (submitted_at ends earlier n) (chunk_by ends.chunk n sent_event.asked sent_event.next sent_event.answered)
  submitted_on n =
      ap (chunk_in ends.chunk n) sent_more ∙ chunk_more ends.chunk n (sender_history ends earlier) (sent_event ∷ [])
      ∙ ap (or_else (submitted_at ends earlier n)) (Sends.or_else_none (chunk_by ends.chunk n sent_event.asked sent_event.next sent_event.answered))

  pub named_on : (n : ℕ) → named_in n (sender_history ends (earlier then at_sender call)) ≡ (named_in n (sender_history ends earlier) || named_in n (sent_event ∷ []))
  named_on n = ap (named_in n) sent_more ∙ Sends.named_more n (sender_history ends earlier) (sent_event ∷ [])

-- ONE CALL MORE AT THE RECEIVER

module _ (ends : Ends) (earlier : Moves) (call : R.Call) where
  abbrev pub got_event : R.Event
  got_event = (R.step_of (receiver_end ends earlier) call).event

  pub got_more : receiver_history ends (earlier then at_receiver call) ≡ receiver_history ends earlier ++ (got_event ∷ [])
  got_more = events_more call (R.begun ends.s ends.slot ends.recv_store) (receiver_calls earlier)

  pub accepted_on : accepted_in (receiver_history ends (earlier then at_receiver call)) ≡ accepted_in (receiver_history ends earlier) ++ accepted_in (got_event ∷ [])
  accepted_on = ap accepted_in got_more ∙ accepted_more (receiver_history ends earlier) (got_event ∷ [])
