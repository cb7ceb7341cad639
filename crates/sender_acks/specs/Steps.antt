-- What the code's own functions promise: the samples as the code takes them. No promise of a call that a host
-- makes needs this page.
use Rattle.std.specs.Prelude.{ℕ, ◌≡◌, List, length, Option}
use Rattle.timer.specs.declared.Sampled.{Sampled}
use Rattle.sender_acks.specs.Acks.{timed_by, grown_by}
use Rattle.sender_acks.specs.declared.Measured.{Measured}

-- what the samples make of timing and window, and how many there are
pub record Measures (measured : Option Sampled → ℕ → Option Sampled) (timing : Option Sampled) (window : ℕ) (l : List ℕ) (m : Measured) : Type 0 where
  pub times : m.timing ≡ timed_by measured timing l
  pub grows : m.window ≡ grown_by window l
  pub counts : m.count ≡ length l
