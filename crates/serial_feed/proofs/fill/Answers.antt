-- `serial_feed::fill` meets its contract: it copies what the packet lacks, or all that is given, behind the bytes that are there. Assumes nothing.
use mathlib.Core.Path.{◌≡◌}
use native.Mathlib.Omega.{arith}
use lib.ListN.{take, drop}
use Rattle.std.proofs.lemmas.Grind.{common_steps}
use Rattle.wire.proofs.Parts.{put_behind}
use Rattle.serial_state.specs.Frames.{within}
use Rattle.serial_state.specs.Rules.{coming_of, line_rules}
use Rattle.serial_feed.specs.Feed.{heard_by}
use Rattle.serial_feed.proofs.Bytes.{within_short, within_full}
use Rattle.serial_feed.proofs.fill.Goals as goal

pub returns-then-count-lacks : goal.returns-then-count-lacks
unfolding line_rules heard_by
returns-then-count-lacks c =
    let r = c.args.r in
    let buffer = c.args.buffer.now in
    let bytes = drop c.args.at c.args.portion.now in
    let known : coming_of r buffer ≡ within r.size (take r.there buffer) = grind (arith, common_steps) in
    let short = within_short r.room r.size (take r.there buffer) bytes (grind (arith, common_steps)) in
    let after = put_behind buffer bytes c.put_bytes.new.rest r.there (grind (arith, common_steps)) (grind (arith, common_steps)) in
    rw (known, short, after) (grind (arith, common_steps))

pub returns : goal.returns
unfolding line_rules heard_by
returns c =
    let r = c.args.r in
    let buffer = c.args.buffer.now in
    let bytes = drop c.args.at c.args.portion.now in
    let n = c.min-count.result in
    let known : coming_of r buffer ≡ within r.size (take r.there buffer) = grind (arith, common_steps) in
    let full = within_full r.room r.size (take r.there buffer) bytes n (grind (arith, common_steps)) (grind (arith, common_steps)) (grind (arith, common_steps)) in
    let after = put_behind buffer (take n bytes) c.put_bytes-2.new.rest r.there (grind (arith, common_steps)) (grind (arith, common_steps)) in
    rw (known, full, after) (grind (arith, common_steps))
