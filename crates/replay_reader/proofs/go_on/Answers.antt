-- `replay_reader::go_on` meets its contract: a byte that is refused ends the call, and at the portion's end all is used. Assumes nothing.
use native.Mathlib.Omega.{arith}
use Rattle.std.proofs.lemmas.Grind.{common_steps}
use Rattle.replay_reader.specs.Rules.{known_of}
use Rattle.replay_reader.specs.ReadOn.{onward_by}
use Rattle.replay_reader.proofs.Facts.{ruled, front, goes}
use Rattle.replay_reader.proofs.Data.{until_ended}
use Rattle.replay_reader.proofs.Turns.{turn}
use Rattle.replay_reader.proofs.go_on.Goals as goal

pub returns-in_err-next : goal.returns-in_err-next
unfolding onward_by
returns-in_err-next c =
    let l = c.loop-at in
    let t = turn (known_of l.reader l.buffer) c.args.portion.now l.at (omega arith) in
    let s = c.byte_read.ensures.to l.buffer in
    grind (arith, common_steps, until_ended)

pub returns : goal.returns
unfolding onward_by
returns c =
    let l = c.loop-at in
    let r = ruled l.reader l.buffer l.invariant.keeps (omega arith) in
    let f = front l.reader l.buffer l.invariant.keeps (omega arith) in
    let g = goes l.reader l.buffer l.invariant.keeps in
    grind (arith, common_steps, g)
