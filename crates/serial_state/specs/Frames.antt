-- The packets on a serial line: each stands behind its length, two bytes, the high one first. A byte at a time.
use Rattle.std.specs.Prelude.{ℕ, suc, ◌+◌, ◌*◌, ◌/◌, ◌%◌, Bool, true, false, ◌||◌, List, [], ◌∷◌, ◌++◌, eqb, ltb, leb, length}
use Rattle.terms.specs.Ladder.{◌when◌else◌, ◌and◌}
use Rattle.portions.specs.Fold.{Left, quiet, read_all}

-- what a reader knows of the packet that is coming
pub data Coming : Type 0 where
  -- nothing
  idle : Coming
  -- the high byte of its length
  half : ℕ → Coming
  -- its length, and those of its bytes that are there, fewer than that
  within : ℕ → List ℕ → Coming
  -- a length was refused: nothing is read any more
  stopped : Coming

abbrev pub is_stopped : Coming → Bool
is_stopped idle = false
is_stopped (half high) = false
is_stopped (within size there) = false
is_stopped stopped = true

-- a length under 22, or above the lent buffer
abbrev pub is_unfit : ℕ → ℕ → Bool
is_unfit room size = ltb size 22 || ltb room size

-- once a length is there
abbrev pub after_length : ℕ → ℕ → Coming
after_length room size =
    stopped when is_unfit room size else
    within size []

-- one byte, for a buffer of this length
abbrev pub read_byte : ℕ → Coming → ℕ → Left Coming (List ℕ)
read_byte room idle byte = quiet (half byte)
read_byte room (half high) byte = quiet (after_length room (high * 256 + byte))
read_byte room (within size there) byte =
    record { state = idle; gave = (there ++ (byte ∷ [])) ∷ [] } when eqb (suc (length there)) size else
    quiet (within size (there ++ (byte ∷ [])))
read_byte room stopped byte = quiet stopped

-- The packets in a string of bytes, and what a reader knows at its end: whether a length was refused, too.
abbrev pub frames_of : ℕ → List ℕ → Left Coming (List ℕ)
frames_of room bytes = read_all (read_byte room) idle bytes

-- an honest line: each packet behind its length
abbrev pub framed : List ℕ → List ℕ
framed packet = (length packet / 256) ∷ (length packet % 256) ∷ packet

abbrev pub line_of : List (List ℕ) → List ℕ
line_of [] = []
line_of (packet ∷ rest) = framed packet ++ line_of rest

-- and packets of 22 bytes up to the buffer's length, which is more than two bytes can say where it is large
abbrev pub fits_line : ℕ → List ℕ → Bool
fits_line room packet = leb 22 (length packet) and leb (length packet) room and leb (length packet) 65535

abbrev pub all_fit_line : ℕ → List (List ℕ) → Bool
all_fit_line room [] = true
all_fit_line room (packet ∷ rest) = fits_line room packet and all_fit_line room rest
