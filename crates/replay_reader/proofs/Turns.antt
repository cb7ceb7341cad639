-- The loop over the bytes outside a record's data. Assumes nothing.
use Prim.Native.Nat.{ℕ, ◌+◌, ◌<◌}
use mathlib.Core.Path.{◌≡◌}
use mathlib.Core.List.{List}
use native.Mathlib.Numerals.{add-one}
use lib.ListN.{length, drop, get_or}
use lib.Seq.{drop-cons}
use Rattle.portions.specs.Stops.{unless_given, until_given}
use Rattle.replay_format.specs.Bytes.{Known, read_night_byte}

-- what is left of the portion, by its next byte
pub turn : (known : Known) (portion : List ℕ) (at : ℕ) → at < length portion
    → until_given read_night_byte known (drop at portion)
    ≡ unless_given (read_night_byte known (get_or portion at 0)).gave (read_night_byte known (get_or portion at 0)).state
    (until_given read_night_byte (read_night_byte known (get_or portion at 0)).state (drop (at + 1) portion))
turn known portion at h = rw (drop-cons portion at 0 h, add-one at)
