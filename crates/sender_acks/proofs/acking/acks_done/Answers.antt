-- `sender_acks::acking::acks_done` meets its contract: the flags say which places are acknowledged, and the samples are theirs. Assumes nothing.
use native.Mathlib.Omega.{arith}
use borrow.Author.Rules.{rules}
use Rattle.sender_state.proofs.Facts.{ruled}
use Rattle.sender_acks.proofs.Freeing.{tidy_flags, acks_made}
use Rattle.sender_acks.proofs.acking.acks_done.Goals as goal

pub measure-m-requires : goal.measure-m-requires
measure-m-requires c = tidy_flags c.args.s (search rules) (search rules) (omega arith) c.args.through.0 c.args.nacks.now c.acked_flags-flags.result c.acked_flags-flags.ensures (ruled c.args.s c.requires)

pub returns : goal.returns
returns c = acks_made c.args.s (search rules) (search rules) (omega arith) c.args.through.0 c.args.nacks.now c.acked_flags-flags.result c.acked_flags-flags.ensures
    c.args.clock c.measure-m.result c.measure-m.ensures _ c.freed.ensures
