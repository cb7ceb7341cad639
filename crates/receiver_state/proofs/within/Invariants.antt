-- `receiver_state::within`: the flag says of the marks looked at so far whether each is at most top; a mark has 16 bits, so that most says it too.
use Rattle.std.proofs.Common.{◌≡◌, take, min}
use Rattle.terms.specs.Lists.{all}
use Rattle.receiver_state.specs.Slots.{at_most}
use Rattle.receiver_state.proofs.within.Given as goal

abbrev pub invariant-loop-mark : goal.invariant-loop-mark
invariant-loop-mark l = (l.most ≡ min l.fn.top 65535) × (l.ok ≡ all (at_most l.fn.top) (take l.mark-index l.marks))
