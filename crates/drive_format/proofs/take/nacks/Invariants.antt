-- `drive_format::take::nacks` meets its contract: after so many turns there are as many NACKs. Assumes nothing.
use Rattle.std.proofs.Common.{◌≡◌}
use Rattle.drive_format.proofs.take.nacks.Given as goal

abbrev pub invariant-loop : goal.invariant-loop
invariant-loop g l = l.nacks.length ≡ l.counter
