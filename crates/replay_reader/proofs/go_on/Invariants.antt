-- `replay_reader::go_on` meets its contract. The loop's invariant: the bytes up to at were read, and what is left of the portion does the rest; the buffer is as it was.
-- Assumes nothing.
use Rattle.std.proofs.Common.{◌≡◌, true, drop}
use Rattle.portions.specs.Stops.{until_given, used_before}
use Rattle.replay_format.specs.Bytes.{read_night_byte}
use Rattle.replay_reader.specs.Rules.{known_of, reader_rules}
use Rattle.replay_reader.proofs.go_on.Given as goal

abbrev pub invariant-loop-at : goal.invariant-loop-at
invariant-loop-at l = record {
  lent : l.buffer ≡ l.initial.buffer;
  keeps : reader_rules l.reader ≡ true;
  same : used_before l.at (until_given read_night_byte (known_of l.reader l.buffer) (drop l.at l.portion))
      ≡ until_given read_night_byte (known_of l.fn.whole l.initial.buffer) l.portion;
}
