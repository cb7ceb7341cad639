-- `sender_submit::packets::Making::put` meets its contract: the place has room for a chunk's packet, so that the writer never refuses it. Assumes nothing.
use mathlib.Core.Path.{ap}
use Rattle.std.specs.Result.{is_ok}
use Rattle.sender_submit.proofs.Ways.{made_done}
use Rattle.sender_submit.proofs.packets.Making.put.Goals as goal

pub unwrap-requires : goal.unwrap-requires
unwrap-requires c = ap is_ok (made_done c.args.self.now c.args.number.0 c.args.chunk.now _ c.write.result c.requires.0 c.requires.1 c.write.ensures.result_value)
