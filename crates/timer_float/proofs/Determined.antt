-- Any two results that the promise allows are equal. Assumes nothing.
use Prim.Native.Nat.{ℕ}
use mathlib.Core.Path.{◌≡◌}
use Rattle.std.specs.Prelude.{Result}
use Rattle.terms.specs.declared.Refusal.{Refusal}
use Rattle.terms.specs.Answers.{said_of}
use Rattle.terms.proofs.Determined.{determined, said_of_one}
use Rattle.timer_float.specs.Float.{float_of, smooth_said}

pub smooth_float_determined : (old sample : ℕ) (a b : Result ℕ Refusal) → said_of a ≡ smooth_said float_of old sample → said_of b ≡ smooth_said float_of old sample → a ≡ b
smooth_float_determined old sample a b p q = said_of_one a b (determined p q)
