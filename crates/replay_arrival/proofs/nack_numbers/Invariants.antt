-- `replay_arrival::nack_numbers` meets its contract: so many numbers are listed. Assumes nothing.
use Rattle.std.proofs.Common.{◌≡◌, take}
use Rattle.wire.specs.BigEndian.{numbers_at}
use Rattle.replay_arrival.proofs.nack_numbers.Given as goal

abbrev pub invariant-loop-i : goal.invariant-loop-i
invariant-loop-i l = take l.i l.numbers ≡ numbers_at 4 l.i 17 l.packet
