-- `sender_state::replace` meets its contract: after i turns the first i places are done. Assumes nothing.
use mathlib.Core.Path.{◌≡◌}
use Rattle.sender_state.specs.Numbers.{marked_with}
use Rattle.sender_state.proofs.Replaced.{done}
use Rattle.sender_state.proofs.replace.Given as goal

abbrev pub invariant-loop-i : goal.invariant-loop-i
invariant-loop-i g l = l.list ≡ done l.value (marked_with 1 l.flags) l.i l.initial.list
