-- `serial_feed::hear` meets its contract: a reader that has stopped stays so. Assumes nothing.
use mathlib.Core.Path.{◌≡◌}
use native.Mathlib.Omega.{arith}
use Rattle.std.proofs.lemmas.Grind.{common_steps}
use Rattle.serial_state.specs.Frames.{stopped}
use Rattle.serial_state.specs.Rules.{coming_of, line_rules}
use Rattle.serial_feed.specs.Feed.{heard_by}
use Rattle.serial_feed.proofs.Bytes.{until_stopped}
use Rattle.serial_feed.proofs.hear.Goals as goal

pub returns-then-r-eq3 : goal.returns-then-r-eq3
unfolding line_rules heard_by
returns-then-r-eq3 c =
    let known : coming_of c.args.r c.args.buffer.now ≡ stopped = grind (arith, common_steps) in
    rw (known, until_stopped) (grind (arith, common_steps))

pub returns-in-len1-up : goal.returns-in-len1-up
unfolding line_rules
returns-in-len1-up c = let m = rw c.requires.own at c.measured.ensures in grind (arith, common_steps)

pub returns-in-len2-up : goal.returns-in-len2-up
unfolding line_rules
returns-in-len2-up c = let m = rw c.requires.own at c.measured-in-len2-up.ensures in grind (arith, common_steps)
