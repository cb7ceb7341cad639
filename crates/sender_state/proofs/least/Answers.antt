-- `sender_state::least` meets its contract: after i turns low is the lowest number sought among the first i places. Assumes nothing.
use native.Mathlib.Omega.{arith}
use Rattle.sender_state.proofs.Folds.{least_none, lowest_none, lowest_some}
use Rattle.sender_state.proofs.least.Goals as goal

pub loop-i-init : goal.loop-i-init
loop-i-init c = least_none _ _ _ _

pub returns-then-low : goal.returns-then-low
returns-then-low c = lowest_none _ _ _ _ _ _ c.loop-i.invariant (omega arith) c.if-low.true

pub returns-else-low : goal.returns-else-low
returns-else-low c = lowest_some _ _ _ _ _ _ c.loop-i.invariant (omega arith) c.if-low.false
