-- `replay_reader::fill` meets its contract: it copies what the data lacks, or all that is given, behind the bytes that are there. Assumes nothing.
use Prim.Native.Nat.{◌+◌, ◌-◌, ◌≤◌}
use mathlib.Core.Path.{◌≡◌}
use mathlib.Core.List.{◌++◌}
use native.Mathlib.Omega.{arith}
use lib.ListN.{length, take, drop, get_or, length-append, length-drop}
use lib.Seq.{drop-cons, length-take-le, get_or-drop}
use Rattle.std.proofs.lemmas.Grind.{common_steps}
use Rattle.wire.proofs.Parts.{put_behind}
use Rattle.replay_reader.specs.Rules.{reader_rules}
use Rattle.replay_reader.specs.ReadOn.{onward_by}
use Rattle.replay_reader.proofs.Facts.{known_data, data_rules}
use Rattle.replay_reader.proofs.Data.{until_ended, data_short, data_full, fits_data, path_data}
use Rattle.replay_reader.proofs.fill.Goals as goal

-- a path answer is one byte, and none of it is there
pub returns-then-portion-at-gt1 : goal.returns-then-portion-at-gt1
unfolding reader_rules onward_by
returns-then-portion-at-gt1 c whole =
    let p = drop-cons c.args.portion.now c.args.at 0 c.requires.inside in
    grind (arith, common_steps, until_ended)

pub returns-then-count-lacks : goal.returns-then-count-lacks
unfolding onward_by
returns-then-count-lacks c whole =
    let r = c.args.r in
    let buffer = c.args.buffer.now in
    let bytes = drop c.args.at c.args.portion.now in
    let known = known_data r buffer c.requires.ruled c.requires.within in
    let d = data_rules r buffer c.requires.ruled c.requires.within in
    let short = data_short r.kind r.size (take r.there buffer) bytes (grind (arith, common_steps)) in
    let after = put_behind buffer bytes c.put_bytes.new.rest r.there (grind (arith, common_steps)) (grind (arith, common_steps)) in
    rw (known, short, after) (grind (arith, common_steps))

pub returns : goal.returns
unfolding onward_by
returns c whole =
    let r = c.args.r in
    let buffer = c.args.buffer.now in
    let bytes = drop c.args.at c.args.portion.now in
    let n = c.min-count.result in
    let known = known_data r buffer c.requires.ruled c.requires.within in
    let d = data_rules r buffer c.requires.ruled c.requires.within in
    let lt = length-take-le r.there buffer (omega arith) in
    let ln = length-take-le n bytes (omega (arith, length-drop c.args.at c.args.portion.now)) in
    let span : c.args.at + n - c.args.at ≡ n = omega arith in
    let after = put_behind buffer (take n bytes) c.put_bytes.new.rest r.there (omega arith) (rw span at c.put_bytes.ensures) in
    let long : length (take r.there buffer ++ take n bytes) ≡ r.size = omega (arith, length-append (take r.there buffer) (take n bytes)) in
    let p = path_data r.kind r.size r.there n buffer bytes d.0 d.2 (omega arith) in
    let small : r.kind ≡ 4 → get_or (take r.there buffer ++ take n bytes) 0 0 ≤ 1 = λ k. rw (p k, get_or-drop) (grind arith) in
    let fits = fits_data r.kind (take r.there buffer ++ take n bytes) (rw long d.0) small in
    let full = data_full r.kind r.size (take r.there buffer) bytes n (omega arith) (omega arith) (omega (arith, length-drop c.args.at c.args.portion.now)) fits in
    rw (known, full, after) (grind (arith, common_steps))
