-- Each promise of `packet_keys` allows one result only. Assumes nothing.
use Rattle.std.proofs.Common.{ℕ, ◌≡◌, Option, Some, None}
use Rattle.terms.specs.Ladder.{◌when◌else◌}
use Rattle.terms.proofs.Determined.{determined}
use Rattle.packet_keys.specs.Kinds.{signature_length, key_length, is_listed}

pub signature_length_determined : (kind : ℕ) (a b : Option ℕ) → a ≡ (Some (signature_length kind) when is_listed kind else None)
    → b ≡ (Some (signature_length kind) when is_listed kind else None) → a ≡ b
signature_length_determined kind a b p q = determined p q

pub key_length_determined : (kind : ℕ) (a b : Option ℕ) → a ≡ (Some (key_length kind) when is_listed kind else None)
    → b ≡ (Some (key_length kind) when is_listed kind else None) → a ≡ b
key_length_determined kind a b p q = determined p q
