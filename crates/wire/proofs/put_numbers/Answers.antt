-- `wire::put_numbers` meets its contract: after so many turns the first numbers stand at the front, and the next goes behind them. Assumes nothing.
use Prim.Native.Nat.{◌-◌}
use mathlib.Core.Path.{sym, ◌∙◌}
use native.Mathlib.Omega.{arith}
use borrow.Rule.Slice.PartMut.{same_len_mid}
use lib.ListN.{length, get_or, take}
use lib.Seq.{length-take-le}
use Rattle.wire.specs.BigEndian.{bytes_of, bytes_of_each}
use Rattle.wire.proofs.Laws.{length_each, each_more}
use Rattle.wire.proofs.Parts.{then_put}
use Rattle.wire.proofs.put_numbers.Goals as goal

pub loop-x-preserved : goal.loop-x-preserved
loop-x-preserved c = let l = c.loop-x in
    let xs = c.args.xs.now in
    let j = l.x-index in
    record {
      behind = omega arith;
      long = same_len_mid l.at (length l.rest - l.at) l.rest c.put.new.rest c.put.auto.rest ∙ l.invariant.long;
      written = then_put (bytes_of_each 4 (take j xs)) (bytes_of 4 (get_or xs j 0)) c.args.rest.now _ _ _ l.invariant.written
          (length_each 4 (take j xs) ∙ rw (length-take-le j xs (omega arith)) (sym l.invariant.behind)) (omega arith) c.put.ensures
          ∙ rw (each_more 4 xs j (omega arith));
    }
