-- The tables of the code are the list of the definitions, and what holds of every type of it. Assumes nothing.
use Rattle.std.proofs.Common.{ℕ, ◌≡◌, List, [], ◌∷◌, slice_index_or, Option, Some, None, arith}
use Rattle.std.proofs.lemmas.Grind.{common_steps}
use Rattle.terms.specs.Ladder.{◌when◌else◌}
use Rattle.packet_keys.specs.Kinds.{kinds, is_listed, signature_length, key_length, Bounded, Listed}

-- the code's tables
abbrev pub signatures : List (Option ℕ)
signatures = Some 40 ∷ Some 64 ∷ Some 96 ∷ Some 132 ∷ None ∷ None ∷ None ∷ Some 64 ∷ None ∷ None ∷ None ∷ Some 64 ∷ []

abbrev pub keys : List (Option ℕ)
keys = Some 128 ∷ Some 64 ∷ Some 96 ∷ Some 132 ∷ None ∷ None ∷ None ∷ Some 32 ∷ None ∷ None ∷ None ∷ Some 32 ∷ []

pub signature_at : (k : ℕ) → slice_index_or signatures k None ≡ (Some (signature_length k) when is_listed k else None)
unfolding signature_length kinds
signature_at k = grind (arith, common_steps)

pub key_at : (k : ℕ) → slice_index_or keys k None ≡ (Some (key_length k) when is_listed k else None)
unfolding signature_length key_length kinds
key_at k = grind (arith, common_steps)

pub bounded : (k : ℕ) → Bounded k
unfolding signature_length key_length kinds
bounded k = record { signature_most = grind (arith, common_steps); key_most = grind (arith, common_steps) }

-- every listed type has lengths
pub listed : (k : ℕ) → (signature_length k ≡ 0 → ⊥) → Listed k
unfolding signature_length key_length kinds
listed k n = record { signature_least = grind (arith, common_steps); key_least = grind (arith, common_steps) }
