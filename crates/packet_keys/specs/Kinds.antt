-- Document 02's fixed list of signing types: key types 0, 1, 2, 3, 7 and 11, signature lengths 40, 64, 96, 132, 64, 64, key lengths 128, 64,
-- 96, 132, 32, 32.
use Rattle.std.specs.Prelude.{ℕ, ◌≤◌, Bool, not, List, [], ◌∷◌, eqb}
use Rattle.terms.specs.Ladder.{◌when◌else◌}

pub record Kind : Type 0 where
  pub type_is : ℕ
  pub signature_long : ℕ
  pub key_long : ℕ

abbrev kind : ℕ → ℕ → ℕ → Kind
kind n signature key = record { type_is = n; signature_long = signature; key_long = key }

unfoldable pub kinds : List Kind
kinds = kind 0 40 128 ∷ kind 1 64 64 ∷ kind 2 96 96 ∷ kind 3 132 132 ∷ kind 7 64 32 ∷ kind 11 64 32 ∷ []

-- what the list says of a type, 0 for one that is not listed
abbrev pub looked_up : (Kind → ℕ) → List Kind → ℕ → ℕ
looked_up asked [] n = 0
looked_up asked (k ∷ ks) n = asked k when eqb k.type_is n else looked_up asked ks n

unfoldable pub signature_length : ℕ → ℕ
unfolding kinds
signature_length n = looked_up (λ (k : Kind). k.signature_long) kinds n

unfoldable pub key_length : ℕ → ℕ
unfolding kinds
key_length n = looked_up (λ (k : Kind). k.key_long) kinds n

-- a type that is not listed has no length
abbrev pub is_listed : ℕ → Bool
is_listed n = not (eqb (signature_length n) 0)

-- What holds of every type: its lengths are at most 132, and where it is listed, its signature has at least 40 bytes and its key at least 32.
pub record Bounded (n : ℕ) : Type 0 where
  pub signature_most : signature_length n ≤ 132
  pub key_most : key_length n ≤ 132

pub record Listed (n : ℕ) : Type 0 where
  pub signature_least : 40 ≤ signature_length n
  pub key_least : 32 ≤ key_length n
