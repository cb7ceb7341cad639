-- A start: nothing is known of a packet, and the buffer's length is noted.
use Rattle.std.specs.Prelude.{List, ℕ, length}
use Rattle.serial_state.specs.Frames.{idle}
use Rattle.serial_state.specs.Rules.{reader_of}
use Rattle.serial_state.specs.declared.LineReader.{LineReader}

abbrev pub line_start : List ℕ → LineReader
line_start buffer = reader_of (length buffer) idle
