-- A reader as the code keeps it: numbers, beside a buffer that the host lends and that has the bytes which are there at its front.
use Rattle.std.specs.Prelude.{ℕ, Bool, false, List, [], eqb, ltb, leb, length, take}
use Rattle.terms.specs.Ladder.{◌when◌else◌, ◌and◌}
use Rattle.serial_state.specs.Frames.{Coming, idle, half, within, stopped}
use Rattle.serial_state.specs.declared.LineReader.{LineReader}

-- what the numbers and the buffer say of the packet that is coming
abbrev pub coming_of : LineReader → List ℕ → Coming
coming_of r buffer =
    idle when eqb r.phase 0 else
    half r.high when eqb r.phase 1 else
    within r.size (take r.there buffer) when eqb r.phase 2 else
    stopped

-- and the numbers that say it; those without a meaning are 0
abbrev pub reader_of : ℕ → Coming → LineReader
reader_of room idle = record { room = room; phase = 0; high = 0; size = 0; there = 0 }
reader_of room (half high) = record { room = room; phase = 1; high = high; size = 0; there = 0 }
reader_of room (within size there) = record { room = room; phase = 2; high = 0; size = size; there = length there }
reader_of room stopped = record { room = room; phase = 3; high = 0; size = 0; there = 0 }

-- the bytes that are there of a packet
abbrev pub there_in : Coming → List ℕ
there_in idle = []
there_in (half high) = []
there_in (within size there) = there
there_in stopped = []

-- The rules of a reader, behind refusal 11, by its phase: numbers without a meaning are 0, half a length is one byte, a length is 22 to the smaller
-- of the buffer's and 65,535, and what is there of a packet is less than its length.
unfoldable pub line_rules : LineReader → Bool
line_rules r =
    (eqb r.high 0 and eqb r.size 0 and eqb r.there 0) when eqb r.phase 0 else
    (ltb r.high 256 and eqb r.size 0 and eqb r.there 0) when eqb r.phase 1 else
    (eqb r.high 0 and leb 22 r.size and leb r.size r.room and leb r.size 65535 and ltb r.there r.size) when eqb r.phase 2 else
    (eqb r.high 0 and eqb r.size 0 and eqb r.there 0) when eqb r.phase 3 else
    false
