-- `sender_state::absent` meets its contract: after so many turns the flag says of the first numbers whether each differs from x. Assumes nothing.
use Rattle.std.proofs.Common.{◌≡◌, take}
use Rattle.terms.specs.Lists.{all}
use Rattle.sender_state.specs.Table.{differs}
use Rattle.sender_state.proofs.absent.Given as goal

abbrev pub invariant-loop-y : goal.invariant-loop-y
invariant-loop-y l = l.ok ≡ all (differs l.x) (take l.y-index l.list)
