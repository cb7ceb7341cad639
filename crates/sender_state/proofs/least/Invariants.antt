-- `sender_state::least` meets its contract: after i turns low is the lowest number sought among the first i places. Assumes nothing.
use Rattle.std.proofs.Common.{◌≡◌}
use Rattle.sender_state.specs.Steps.{least_of}
use Rattle.sender_state.proofs.least.Given as goal

abbrev pub invariant-loop-i : goal.invariant-loop-i
invariant-loop-i l = l.low ≡ least_of l.numbers l.marks l.wanted l.from l.i
