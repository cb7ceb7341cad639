-- What was taken is the beginning of what was submitted: the takes gave the numbers in their order, each with the bytes submitted under it. Assumes nothing.
use Prim.Native.Nat.{ℕ, ◌+◌, ◌-◌, ◌≤◌, ◌<◌}
use mathlib.Core.Path.{◌≡◌, refl, sym, ◌∙◌, ap}
use mathlib.Core.Bool.{false, true≢false}
use mathlib.Core.List.{List, ◌++◌}
use mathlib.Core.Option.{some}
use native.Mathlib.Decide.{dec_le}
use native.Mathlib.Omega.{arith}
use borrow.Author.Tests.{lt-leb}
use lib.ListN.{length, get_elem?}
use Rattle.terms.proofs.Laws.{case}
use Rattle.sender_state.specs.Table.{is_waiting, is_flying}
use Rattle.sender_state.specs.declared.Sender.{Sender}
use Rattle.sender_meaning.specs.Meaning.{Standing, unmade, waits, flies, gone, mark_of, standing, does_wait, does_fly}
use Rattle.sender_meaning.proofs.Counts.{by_bool}
use Rattle.receiver_runs.specs.History.{Piece, taken_in}
use Rattle.receiver_runs.proofs.Places.{in_order}
use Rattle.stream_joined.specs.Moves.{Ends, Moves, receiver_history, sender_end}
use Rattle.stream_joined.specs.Wire.{Joined}
use Rattle.stream_joined.specs.Forgotten.{submitted_at}
use Rattle.stream_joined.proofs.Halves.{receiver_run}
use Rattle.stream_joined.proofs.Arrivals.{accepted_submitted}
use Rattle.stream_joined.proofs.Remembered.{nothing_forgotten}
use Rattle.stream_whole.specs.Whole.{submitted, taken, sender_next, receiver_next, WholeAndInOrder}
use Rattle.stream_whole.proofs.Rows.{row, row_split, row_pieces, there}
use Rattle.stream_whole.proofs.Given.{or_empty, chunk_of, submitted_range, next_least, given_row}

module _ (ends : Ends) (moves : Moves) (j : Joined ends moves) where
  abbrev took : List Piece
  took = taken_in (receiver_history ends moves)

  -- the take at a place gave the number at that place, with the bytes submitted under it
  took_at : (k : ℕ) (piece : Piece) → get_elem? took k ≡ some piece → submitted_at ends moves (ends.first.0 + k) ≡ some piece.bytes
  took_at k piece e =
      let o = in_order (receiver_run ends moves j.widths) in
      let number : piece.number ≡ ends.first.0 + k = omega (arith, o.as_numbered k piece e, ends.one_less) in
      rw number at (accepted_submitted ends moves j piece.number piece.bytes (o.bytes_first k piece e))

  taken_row : taken ends moves ≡ row (chunk_of ends moves) ends.first.0 (length took)
  taken_row = row_pieces (chunk_of ends moves) ends.first.0 took (λ k piece e. ap or_empty (took_at k piece e))

  -- no more were taken than given
  took_few : length took ≤ sender_next ends moves - ends.first.0
  took_few =
      let given = sender_next ends moves - ends.first.0 in
      case
      (λ (h : length took ≤ given). h)
      (λ (h : length took ≤ given → ⊥).
      let t = there took given (omega arith) in
      let r = submitted_range ends moves j.widths (ends.first.0 + given) t.0.bytes (took_at given t.0 t.1) in
      absurd (omega (arith, r.1, next_least ends moves)))
      (dec_le (length took) given)

  begin : (rest : List ℕ) × (submitted ends moves ≡ taken ends moves ++ rest)
  begin =
      let given = sender_next ends moves - ends.first.0 in (
        row (chunk_of ends moves) (ends.first.0 + length took) (given - length took),
        given_row ends moves j.widths ∙ row_split (chunk_of ends moves) ends.first.0 (length took) (given - length took) given (omega (arith, took_few))
            ∙ ap (λ (l : List ℕ). l ++ row (chunk_of ends moves) (ends.first.0 + length took) (given - length took)) (sym taken_row),
      )

  all : receiver_next ends moves ≡ sender_next ends moves → taken ends moves ≡ submitted ends moves
  all e =
      let o = in_order (receiver_run ends moves j.widths) in
      let same : length took ≡ sender_next ends moves - ends.first.0 = omega (arith, o.next_is, ends.one_less) in
      taken_row ∙ ap (row (chunk_of ends moves) ends.first.0) same ∙ sym (given_row ends moves j.widths)

-- below next no number is unmade
below_made : (s : Sender) (store : List ℕ) (n : ℕ) → n < s.next.0 → standing s store n ≡ unmade → ⊥
unfolding standing
below_made s store n h e =
    let e' = rw (lt-leb s.next.0 n h) at e in
    by_bool (is_waiting (mark_of s n))
    (λ t. let f = rw t at e' in let z : ◌≡◌ {A = ℕ} 0 1 = cc in omega arith)
    (λ t.
    let f = rw t at e' in
    by_bool (is_flying (mark_of s n))
    (λ u. let g = rw u at f in let z : ◌≡◌ {A = ℕ} 0 1 = cc in omega arith)
    (λ u. let g = rw u at f in let z : ◌≡◌ {A = ℕ} 0 1 = cc in omega arith))

only_gone : (x : Standing) → (x ≡ unmade → ⊥) → does_wait x ≡ false → does_fly x ≡ false → x ≡ gone
only_gone unmade m w f = absurd (m refl)
only_gone (waits packet) m w f = absurd (true≢false w)
only_gone (flies packet sent) m w f = absurd (true≢false f)
only_gone gone m w f = refl

pub whole_and_in_order : (ends : Ends) (moves : Moves) → Joined ends moves → WholeAndInOrder ends moves
whole_and_in_order ends moves j =
    let kept = sender_end ends moves in
    record {
      takes_begin = begin ends moves j;
      takes_all = all ends moves j;
      all_received = λ left n low high.
          (nothing_forgotten ends moves j).dropped_received n
          (record {
            from_first = low;
            not_there = only_gone (standing kept.state kept.store n) (below_made kept.state kept.store n high) (left n).0 (left n).1;
          });
    }
