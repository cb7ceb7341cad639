-- `sender_resend::again::flags_below` meets its contract: after i turns the first i places are flagged. Assumes nothing.
use Rattle.std.proofs.Common.{ℕ, ◌<◌, ◌≡◌, length}
use Rattle.sender_state.specs.Table.{◌!◌, one_if}
use Rattle.sender_resend.specs.Steps.{flying_below}
use Rattle.sender_resend.proofs.again.flags_below.Given as goal

abbrev pub invariant-loop-i : goal.invariant-loop-i
invariant-loop-i l = record {
  long : length l.flags ≡ 192;
  at_place : (k : ℕ) → k < l.i → l.flags ! k ≡ one_if (flying_below l.s.numbers l.s.marks l.end k);
}
