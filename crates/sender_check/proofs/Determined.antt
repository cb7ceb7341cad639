-- Any two results that the promise allows are equal. Assumes nothing.
use mathlib.Core.Path.{◌≡◌}
use mathlib.Core.Bool.{Bool}
use Rattle.terms.proofs.Determined.{determined}
use Rattle.sender_state.specs.Rules.{rules}
use Rattle.sender_state.specs.declared.Sender.{Sender}

pub valid_determined : (s : Sender) (a b : Bool) → a ≡ rules s → b ≡ rules s → a ≡ b
valid_determined s a b p q = determined p q
