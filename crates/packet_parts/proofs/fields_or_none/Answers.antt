-- `packet_parts::fields_or_none` meets its contract: what the fields name lies so. Assumes nothing.
use Rattle.std.proofs.Common.{◌≡◌, arith}
use Rattle.std.proofs.lemmas.Grind.{common_steps}
use Rattle.packet_read.specs.Reading.{fields_of}
use Rattle.packet_parts.proofs.Laws.{parts_laid}
use Rattle.packet_parts.proofs.fields_or_none.Goals as goal

pub returns-clause-laid : goal.returns-clause-laid
returns-clause-laid c =
    let e : c.unwrap_or_default.result ≡ fields_of c.args.packet.now = grind (arith, common_steps) in
    rw e (parts_laid c.args.packet.now)
