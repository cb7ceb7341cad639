-- `sender_check::spread` meets its contract: a number whose remainder no number before it has is none of them. Assumes nothing.
use Rattle.sender_check.proofs.Buckets.{Spreads}
use Rattle.sender_check.proofs.spread.Given as goal

abbrev pub invariant-loop-x : goal.invariant-loop-x
invariant-loop-x l = Spreads l.numbers l.seen l.ok l.x-index
