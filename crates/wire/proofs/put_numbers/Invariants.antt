-- `wire::put_numbers` meets its contract: after so many turns the first numbers stand at the front, and the next goes behind them. Assumes nothing.
use Rattle.std.proofs.Common.{◌≡◌, ◌*◌, length, take}
use Rattle.terms.specs.Lists.{◌at_front_of◌}
use Rattle.wire.specs.BigEndian.{bytes_of_each}
use Rattle.wire.proofs.put_numbers.Given as goal

abbrev pub invariant-loop-x : goal.invariant-loop-x
invariant-loop-x l = record {
  behind : l.at ≡ 4 * l.x-index;
  long : length l.rest ≡ length l.initial.rest;
  written : l.rest ≡ bytes_of_each 4 (take l.x-index l.xs) at_front_of l.initial.rest;
}
