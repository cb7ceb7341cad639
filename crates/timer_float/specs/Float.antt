-- The Rust's own smoothing, in f64 as IEEE 754 has it, and what a call answers with this engine or another.
use Rattle.std.specs.Prelude.{ℕ, [], ◌∷◌, ltb, pos, Float}
use Rattle.std.specs.Float.{binary64}
use Rattle.std.specs.Float.Ieee.{of_int, of_bits, add, mul, sub, rem, to_unsigned}
use Rattle.terms.specs.Ladder.{◌when◌else◌}
use Rattle.terms.specs.Answers.{Said, refusal, values}

-- 0.875 times the old plus 0.125 times the sample
unfoldable pub mix_of : ℕ → ℕ → Float
mix_of old sample =
    add binary64 (mul binary64 (of_bits binary64 0x3fec_0000_0000_0000) (of_int binary64 (pos old)))
    (mul binary64 (of_bits binary64 0x3fc0_0000_0000_0000) (of_int binary64 (pos sample)))

-- less what is left of a division by 1.0
unfoldable pub cut_of : Float → Float
cut_of x = sub binary64 x (rem binary64 x (of_bits binary64 0x3ff0_0000_0000_0000))

-- cut to whole milliseconds
unfoldable pub float_of : ℕ → ℕ → ℕ
float_of old sample = to_unsigned 64 (cut_of (mix_of old sample))

-- the answer by an engine: 31 for a larger time, the old one or the sample
unfoldable pub smooth_said : (ℕ → ℕ → ℕ) → ℕ → ℕ → Said
smooth_said engine old sample =
    refusal 31 when ltb 4294967295 old else
    refusal 31 when ltb 4294967295 sample else
    values (engine old sample ∷ [])
