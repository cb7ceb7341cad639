-- `replay_arrival::acks_here` meets its contract: acks is asked with the packet's NACKs. Assumes nothing.
use native.Mathlib.Omega.{arith}
use Rattle.std.proofs.lemmas.Grind.{common_steps}
use Rattle.packet_read.proofs.Looks.{nack_numbers}
use Rattle.packet_read.proofs.Readable.{readable}
use Rattle.replay_arrival.proofs.acks_here.Goals as goal

pub nack_numbers-count-requires : goal.nack_numbers-count-requires
nack_numbers-count-requires c = (readable c.args.packet.now c.args.p c.requires).nacks_fit

pub returns : goal.returns
returns c = let n = nack_numbers c.args.packet.now c.args.p c.requires in grind (arith, common_steps)
