-- `serial_feed::measured` meets its contract: a length that is refused stops the reader. Assumes nothing.
use mathlib.Core.Path.{◌≡◌}
use native.Mathlib.Omega.{arith}
use lib.ListN.{length}
use Rattle.std.proofs.lemmas.Grind.{common_steps}
use Rattle.serial_state.specs.Frames.{stopped, after_length}
use Rattle.serial_feed.specs.Feed.{heard_by}
use Rattle.serial_feed.proofs.Bytes.{until_stopped}
use Rattle.serial_feed.proofs.measured.Goals as goal

pub returns-then-size-lt22 : goal.returns-then-size-lt22
unfolding heard_by
returns-then-size-lt22 c =
    let unfit : after_length (length c.args.buffer.now) c.args.size ≡ stopped = grind (arith, common_steps) in
    rw (unfit, until_stopped) (grind (arith, common_steps))
