-- `replay_arrival::nack_numbers` meets its contract: one more number is listed. Assumes nothing.
use native.Mathlib.Omega.{arith}
use Rattle.std.proofs.lemmas.Grind.{common_steps}
use Rattle.replay_arrival.proofs.Ways.{numbers_more}
use Rattle.replay_arrival.proofs.nack_numbers.Goals as goal

pub loop-i-preserved : goal.loop-i-preserved
loop-i-preserved c = let more = numbers_more 4 c.loop-i.i 17 c.args.packet.now in grind (arith, common_steps)
