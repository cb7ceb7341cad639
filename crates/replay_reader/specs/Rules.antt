-- A reader of a recorded night as the code keeps it: numbers, beside a buffer that the host lends and that has the bytes of an unfinished record's data at
-- its front.
use Rattle.std.specs.Prelude.{ℕ, Bool, true, false, List, [], eqb, ltb, leb, length, take}
use Rattle.terms.specs.Ladder.{◌when◌else◌, ◌and◌}
use Rattle.replay_format.specs.Night.{size_fits}
use Rattle.replay_format.specs.Bytes.{Known, in_head, before_record, at_length, in_length, in_data, ended}
use Rattle.replay_reader.specs.declared.NightReader.{NightReader}

-- what the numbers and the buffer say of the file
abbrev pub known_of : NightReader → List ℕ → Known
known_of r buffer =
    in_head r.there when eqb r.phase 0 else
    before_record true when eqb r.phase 1 else
    before_record false when eqb r.phase 2 else
    at_length r.kind when eqb r.phase 3 else
    in_length r.kind r.size when eqb r.phase 4 else
    in_data r.kind r.size (take r.there buffer)

-- and the numbers that say it; those without a meaning are 0. Where reading has ended no number is kept: a refused call leaves the reader as it was
abbrev pub numbers_of : Known → NightReader
numbers_of (in_head there) = record { phase = 0; kind = 0; size = 0; there = there }
numbers_of (before_record is_first) = record { phase = 1 when is_first else 2; kind = 0; size = 0; there = 0 }
numbers_of (at_length kind) = record { phase = 3; kind = kind; size = 0; there = 0 }
numbers_of (in_length kind high) = record { phase = 4; kind = kind; size = high; there = 0 }
numbers_of (in_data kind size there) = record { phase = 5; kind = kind; size = size; there = length there }
numbers_of (ended why) = record { phase = 6; kind = 0; size = 0; there = 0 }

-- the bytes that are there of a record's data
abbrev pub data_there : Known → List ℕ
data_there (in_head there) = []
data_there (before_record is_first) = []
data_there (at_length kind) = []
data_there (in_length kind high) = []
data_there (in_data kind size there) = there
data_there (ended why) = []

-- The rules of a reader, behind refusal 11, by its phase: a number without a meaning is 0, mark and version have five bytes, kinds are 0 to 6, half a
-- length is one byte, a length fits its kind, and what is there of the data is less than that.
unfoldable pub reader_rules : NightReader → Bool
reader_rules r =
    (eqb r.kind 0 and eqb r.size 0 and leb r.there 4) when eqb r.phase 0 else
    (eqb r.kind 0 and eqb r.size 0 and eqb r.there 0) when eqb r.phase 1 else
    (eqb r.kind 0 and eqb r.size 0 and eqb r.there 0) when eqb r.phase 2 else
    (leb r.kind 6 and eqb r.size 0 and eqb r.there 0) when eqb r.phase 3 else
    (leb r.kind 6 and ltb r.size 256 and eqb r.there 0) when eqb r.phase 4 else
    (leb r.kind 6 and size_fits r.kind r.size and leb r.size 65535 and ltb r.there r.size) when eqb r.phase 5 else
    false

-- at the file's start nothing is there
abbrev pub night_start : NightReader
night_start = numbers_of (in_head 0)
