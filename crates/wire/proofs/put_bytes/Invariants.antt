-- `wire::put_bytes` meets its contract: after so many turns the first bytes are the source's, and the others are as they were. Assumes nothing.
use Rattle.std.proofs.Common.{◌≡◌, length, take}
use Rattle.terms.specs.Lists.{◌at_front_of◌}
use Rattle.wire.proofs.put_bytes.Given as goal

abbrev pub invariant-loop-i : goal.invariant-loop-i
invariant-loop-i l = record {
  long : length l.rest ≡ length l.initial.rest;
  written : l.rest ≡ take l.i l.src at_front_of l.initial.rest;
}
