-- `packet_read::read` meets its contract: the options are read in the packet cut at their end. Assumes nothing.
use Rattle.std.proofs.Common.{◌+◌, ◌*◌, arith}
use Rattle.std.proofs.lemmas.Grind.{common_steps}
use Rattle.packet_read.specs.Reading.{read_of}
use Rattle.packet_read.proofs.Looks.{options_cut}
use Rattle.packet_read.proofs.read.Goals as goal

pub returns-in_err-found : goal.returns-in_err-found
unfolding read_of
returns-in_err-found c =
    let at = 22 + 4 * c.from-count.result in
    grind (arith, common_steps, options_cut c.args.packet.now at (at + c.from.result) c.read-flags.result)

pub returns : goal.returns
unfolding read_of
returns c =
    let at = 22 + 4 * c.from-count.result in
    grind (arith, common_steps, options_cut c.args.packet.now at (at + c.from.result) c.read-flags.result)
