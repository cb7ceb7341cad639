-- What the bytes of a portion do to a reader within a record's data, in a call that stops at the first complete record. Assumes nothing.
use Prim.Native.Nat.{ℕ, zero, suc, ◌+◌, ◌≤◌, ◌<◌}
use mathlib.Core.Path.{◌≡◌, refl, ap, ◌∙◌}
use mathlib.Core.Bool.{true, false}
use mathlib.Core.List.{List, [], ◌∷◌, ◌++◌, append-nil}
use native.Mathlib.Omega.{arith}
use borrow.Author.Tests.{eq-eqb, ne_eqb}
use lib.ListN.{length, take, get_or, length-append}
use lib.Seq.{append_snoc}
use Rattle.std.proofs.lemmas.Grind.{common_steps}
use Rattle.portions.specs.Stops.{until_given}
use Rattle.replay_format.specs.Night.{size_fits, data_fits}
use Rattle.replay_format.specs.Bytes.{in_data, before_record, ended, read_night_byte}

-- reading that has ended
pub until_ended : (why : ℕ) (bytes : List ℕ) → until_given read_night_byte (ended why) bytes ≡ record { gave = []; used = length bytes; state = ended why }
until_ended why [] = refl
until_ended why (b ∷ rest) = rw (until_ended why rest)

module _ (kind size : ℕ) where
  -- fewer bytes than the data lacks
  pub data_short : (there bytes : List ℕ) → length there + length bytes < size
      → until_given read_night_byte (in_data kind size there) bytes ≡ record { gave = []; used = length bytes; state = in_data kind size (there ++ bytes) }
  data_short there [] h = rw (append-nil there)
  data_short there (b ∷ bytes) h =
      let l = length-append there (b ∷ []) in
      rw (ne_eqb (suc (length there)) size (λ q. omega arith), data_short (there ++ (b ∷ [])) bytes (omega arith), append_snoc there b bytes)

  -- as many, and any others behind them: the data fits its kind
  pub data_full : (there bytes : List ℕ) (n : ℕ) → length there + n ≡ size → 0 < n → n ≤ length bytes → data_fits kind (there ++ take n bytes) ≡ true
      → until_given read_night_byte (in_data kind size there) bytes
      ≡ record { gave = record { kind = kind; bytes = there ++ take n bytes } ∷ []; used = n; state = before_record false }
  data_full there bytes zero e low high fits = absurd (omega arith)
  data_full there [] (suc n) e low high fits = absurd (omega arith)
  data_full there (b ∷ rest) (suc zero) e low high fits = rw (eq-eqb (suc (length there)) size (omega arith), fits)
  data_full there (b ∷ rest) (suc (suc n)) e low high fits =
      let l = length-append there (b ∷ []) in
      let s = append_snoc there b (take (suc n) rest) in
      rw (
        ne_eqb (suc (length there)) size (λ q. omega arith),
        data_full (there ++ (b ∷ [])) rest (suc n) (omega arith) (omega arith) (omega arith) (ap (data_fits kind) s ∙ fits),
        append_snoc there b (take (suc n) rest),
      )

-- which data fits: of the right length, and a path answer is 0 or 1
pub fits_data : (kind : ℕ) (bytes : List ℕ) → size_fits kind (length bytes) ≡ true → (kind ≡ 4 → get_or bytes 0 0 ≤ 1) → data_fits kind bytes ≡ true
fits_data kind bytes fits small = grind (arith, common_steps)

-- a path answer is one byte, the next of the portion
pub path_data : (kind size there n : ℕ) (buffer bytes : List ℕ) → size_fits kind size ≡ true → there < size → there + n ≡ size → kind ≡ 4
    → get_or (take there buffer ++ take n bytes) 0 0 ≡ get_or bytes 0 0
path_data kind size there n buffer bytes fits less e k = grind (arith, common_steps)
