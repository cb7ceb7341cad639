-- `sender_acks::acking::acked_flags` meets its contract: after i turns the first i places are flagged. Assumes nothing.
use Rattle.std.proofs.Common.{ℕ, ◌<◌, ◌≡◌, length}
use Rattle.sender_state.specs.Table.{◌!◌, one_if}
use Rattle.sender_acks.specs.Acks.{acked_at}
use Rattle.sender_acks.proofs.acking.acked_flags.Given as goal

abbrev pub invariant-loop-i : goal.invariant-loop-i
invariant-loop-i l = record {
  long : length l.flags ≡ 192;
  at_place : (k : ℕ) → k < l.i → l.flags ! k ≡ one_if (acked_at l.s.numbers l.s.marks l.through.0 l.nacks k);
}
