-- The bytes submitted equal those waiting, in flight and acknowledged: nothing is at hand at the start, and each call keeps the balance. Assumes nothing.
use Prim.Native.Nat.{◌+◌, ◌<◌, ◌^◌}
use mathlib.Core.Path.{◌≡◌, ap}
use mathlib.Core.Bool.{true}
use native.Mathlib.Omega.{arith}
use borrow.Author.Tests.{lt-leb, ltb-true}
use Rattle.terms.proofs.Laws.{and_left, and_right}
use Rattle.sender_meaning.proofs.Starts.{start_standing, start_next}
use Rattle.sender_runs.proofs.Remembering.{remembers}
use Rattle.stream_joined.specs.Moves.{Ends, at_sender, at_receiver, Moves, nothing, ◌then◌, sender_end, ids_fit, move_in_width, moves_in_width}
use Rattle.stream_joined.specs.Wire.{Joined}
use Rattle.stream_joined.proofs.Halves.{sender_run, sender_more}
use Rattle.stream_counted.specs.Counted.{standing_in, bytes_submitted, bytes_acknowledged, EveryByteCounted}
use Rattle.stream_counted.proofs.Sums.{total_none}
use Rattle.stream_counted.proofs.Counting.{at_hand, bytes_at_hand, at_hand_is, adds_up}

module _ (ends : Ends) where
  -- nothing is at hand at the start
  nothing_yet : bytes_at_hand (sender_end ends nothing) ≡ 0
  nothing_yet =
      let w = ltb-true ends.first.0 (2 ^ 32) ends.first_width in
      let narrow : ends.first.0 < 4294967296 = omega arith in
      total_none (λ n. at_hand (standing_in (sender_end ends nothing) n)) 0 (sender_end ends nothing).state.next.0
      (λ n _ h.
      rw (
        start_standing ends.first ends.chunk ends.count ends.send_store ends.sender_started narrow n,
        lt-leb ends.first.0 n (omega (arith, start_next ends.first ends.chunk ends.count ends.send_store ends.sender_started)),
      ))

  -- each call keeps the balance
  balance : (moves : Moves) → moves_in_width moves ≡ true → bytes_submitted ends moves ≡ bytes_at_hand (sender_end ends moves) + bytes_acknowledged ends moves
  balance nothing wide = omega (arith, nothing_yet)
  balance (earlier then at_receiver call) wide = balance earlier (and_left (moves_in_width earlier) (move_in_width (at_receiver call)) wide)
  balance (earlier then at_sender call) wide =
      let before = balance earlier (and_left (moves_in_width earlier) (ids_fit call) wide) in
      let one = adds_up (sender_end ends earlier) (remembers (sender_run ends earlier)).sound call (and_right (moves_in_width earlier) (ids_fit call) wide) in
      omega (arith, before, one, ap bytes_at_hand (sender_more ends earlier call))

-- 2. of every run
pub every_byte_counted : (ends : Ends) (moves : Moves) → Joined ends moves → EveryByteCounted ends moves
every_byte_counted ends moves j = record { adds_up = omega (arith, balance ends moves j.widths, at_hand_is (sender_end ends moves)) }
