-- What is promised of the two engines: they agree on every pair of times from 0 to 4,294,967,295.
use Rattle.std.specs.Prelude.{ℕ, ◌≤◌, ◌≡◌}
use Rattle.timer.specs.Timer.{smoothed_of}
use Rattle.timer_float.specs.Float.{float_of}

abbrev pub EnginesAgree : Type 0
EnginesAgree = (old sample : ℕ) → old ≤ 4294967295 → sample ≤ 4294967295 → float_of old sample ≡ smoothed_of old sample
