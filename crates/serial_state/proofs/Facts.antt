-- A reader that keeps the rules is what its numbers say, and back. Assumes nothing.
use Prim.Native.Nat.{ℕ, ◌≤◌}
use mathlib.Core.Path.{◌≡◌, refl}
use mathlib.Core.Bool.{true}
use mathlib.Core.List.{List}
use native.Mathlib.Omega.{arith}
use lib.ListN.{length}
use lib.Seq.{take-append_seam}
use Rattle.std.proofs.lemmas.Grind.{common_steps}
use Rattle.terms.specs.Lists.{◌at_front_of◌}
use Rattle.serial_state.specs.Frames.{Coming, idle, half, within, stopped}
use Rattle.serial_state.specs.Rules.{coming_of, reader_of, line_rules, there_in}
use Rattle.serial_state.specs.declared.LineReader.{LineReader}

-- its numbers are those that say what it knows
pub ruled : (r : LineReader) (buffer : List ℕ) → line_rules r ≡ true → length buffer ≡ r.room → r ≡ reader_of r.room (coming_of r buffer)
unfolding line_rules
ruled r buffer h sized = grind (arith, common_steps)

-- and they say it of a buffer with what is there at its front
pub told_back : (room : ℕ) (coming : Coming) (buffer : List ℕ) → coming_of (reader_of room coming) (there_in coming at_front_of buffer) ≡ coming
told_back room idle buffer = refl
told_back room (half high) buffer = refl
told_back room (within size there) buffer = rw (take-append_seam there _)
told_back room stopped buffer = refl

-- what is there of a packet has room
pub there_fits : (room : ℕ) (coming : Coming) → line_rules (reader_of room coming) ≡ true → length (there_in coming) ≤ room
unfolding line_rules
there_fits room idle h = omega arith
there_fits room (half high) h = omega arith
there_fits room (within size there) h = grind (arith, common_steps)
there_fits room stopped h = omega arith
