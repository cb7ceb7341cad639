-- `sender_state::count_of` meets its contract: after so many turns n counts among the first marks. Assumes nothing.
use Rattle.std.proofs.Common.{◌≡◌, ◌≤◌, take}
use Rattle.sender_state.specs.Table.{count_of}
use Rattle.sender_state.proofs.count_of.Given as goal

abbrev pub invariant-loop-mark : goal.invariant-loop-mark
invariant-loop-mark l = record {
  few : l.n ≤ l.mark-index;
  is : l.n ≡ count_of l.wanted (take l.mark-index l.marks);
}
