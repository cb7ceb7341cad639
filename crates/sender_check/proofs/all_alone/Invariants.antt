-- `sender_check::all_alone` meets its contract: the quick test tells it, or after i turns the flag speaks of the first i numbers. Assumes nothing.
use Rattle.std.proofs.Common.{◌≡◌}
use Rattle.sender_check.specs.Steps.{every, alone_at}
use Rattle.sender_check.proofs.all_alone.Given as goal

abbrev pub invariant-loop-i : goal.invariant-loop-i
invariant-loop-i l = l.ok ≡ every l.i (alone_at l.numbers)
