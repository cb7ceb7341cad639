-- What is promised of a recorded night that is read piece by piece.
use Rattle.std.specs.Prelude.{ℕ, ◌≤◌, ◌≡◌, true, List, length}
use Rattle.terms.specs.Lists.{all}
use Rattle.wire.specs.BigEndian.{is_byte}
use Rattle.replay_format.specs.Night.{night_of}
use Rattle.replay_pieces.specs.Offers.{pieces_of, PiecesDone, night_pieced}

-- However the file is cut, pieces of nothing too: the records that the host is given, and how it ends, are what the whole file says.
abbrev pub HoweverPieced : Type 0
HoweverPieced = (buffer file sizes : List ℕ) → 65538 ≤ length buffer → all is_byte file ≡ true → PiecesDone (pieces_of buffer file sizes)
    → night_pieced (pieces_of buffer file sizes) ≡ night_of file
