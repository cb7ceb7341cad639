-- Each promise is an equation, so it allows one result only. Assumes nothing.
use Prim.Native.Nat.{ℕ}
use mathlib.Core.Path.{◌≡◌}
use Rattle.terms.proofs.Determined.{determined}
use Rattle.timer.specs.Timer.{sampled_of, rto_of}
use Rattle.timer.specs.Window.{grown_of, fallen_of}
use Rattle.timer.specs.declared.Sampled.{Sampled}
use Rattle.std.specs.Prelude.{Option}

pub sampled_determined : (t : Option Sampled) (sample : ℕ) (a b : Option Sampled) → a ≡ sampled_of t sample → b ≡ sampled_of t sample → a ≡ b
sampled_determined t sample a b p q = determined p q

pub rto_determined : (t : Option Sampled) (a b : ℕ) → a ≡ rto_of t → b ≡ rto_of t → a ≡ b
rto_determined t a b p q = determined p q

pub window_grown_determined : (window a b : ℕ) → a ≡ grown_of window → b ≡ grown_of window → a ≡ b
window_grown_determined window a b p q = determined p q

pub window_fallen_determined : (window a b : ℕ) → a ≡ fallen_of window → b ≡ fallen_of window → a ≡ b
window_fallen_determined window a b p q = determined p q
