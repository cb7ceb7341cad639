-- `receiver_why::first_missing` meets its contract: the first missing of the numbers that are left is the first missing of all. Assumes nothing.
use Rattle.std.proofs.Common.{◌≡◌, ◌-◌}
use Rattle.receiver_why.specs.Reasons.{first_missing}
use Rattle.receiver_why.proofs.first_missing.Given as goal

abbrev pub invariant-loop-number : goal.invariant-loop-number
invariant-loop-number l = first_missing l.r.marks l.number (l.end - l.number) ≡ first_missing l.r.marks l.next (l.end - l.next)
