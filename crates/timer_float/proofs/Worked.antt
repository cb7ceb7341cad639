-- The document's two pairs, computed in the f64 engine's own definition: nothing here leans on `Agree`. Assumes nothing.
use mathlib.Core.Path.{◌≡◌, refl}
use lib.Ieee.{to_unsigned, sub, add, mul, rem, of_int, of_bits}
use Rattle.timer_float.specs.Float.{float_of, mix_of, cut_of}

smoothed_900 : float_of 800 1600 ≡ 900
unfolding float_of mix_of cut_of to_unsigned sub add mul rem of_int of_bits
smoothed_900 = refl

cut_to_0 : float_of 1 0 ≡ 0
unfolding float_of mix_of cut_of to_unsigned sub add mul rem of_int of_bits
cut_to_0 = refl

largest : float_of 4294967295 4294967295 ≡ 4294967295
unfolding float_of mix_of cut_of to_unsigned sub add mul rem of_int of_bits
largest = refl
