-- What the bytes of a portion do to a reader, in a call that stops at the first full packet. Assumes nothing.
use Prim.Native.Nat.{ℕ, zero, suc, ◌+◌, ◌≤◌, ◌<◌}
use mathlib.Core.Path.{◌≡◌, refl}
use mathlib.Core.List.{List, [], ◌∷◌, ◌++◌, append-nil}
use native.Mathlib.Omega.{arith}
use borrow.Author.Tests.{eq-eqb, ne_eqb}
use lib.ListN.{length, take, length-append}
use lib.Seq.{append_snoc}
use Rattle.portions.specs.Stops.{until_given}
use Rattle.serial_state.specs.Frames.{idle, within, stopped, read_byte}

module _ (room : ℕ) where
  -- a reader that has stopped stays so
  pub until_stopped : (bytes : List ℕ) → until_given (read_byte room) stopped bytes ≡ record { gave = []; used = length bytes; state = stopped }
  until_stopped [] = refl
  until_stopped (b ∷ rest) = rw (until_stopped rest)

  -- fewer bytes than a packet lacks
  pub within_short : (size : ℕ) (there bytes : List ℕ) → length there + length bytes < size
      → until_given (read_byte room) (within size there) bytes ≡ record { gave = []; used = length bytes; state = within size (there ++ bytes) }
  within_short size there [] h = rw (append-nil there)
  within_short size there (b ∷ bytes) h =
      let l = length-append there (b ∷ []) in
      rw (ne_eqb (suc (length there)) size (λ q. omega arith), within_short size (there ++ (b ∷ [])) bytes (omega arith), append_snoc there b bytes)

  -- as many, and any others behind them
  pub within_full : (size : ℕ) (there bytes : List ℕ) (n : ℕ) → length there + n ≡ size → 0 < n → n ≤ length bytes
      → until_given (read_byte room) (within size there) bytes ≡ record { gave = (there ++ take n bytes) ∷ []; used = n; state = idle }
  within_full size there bytes zero e low high = absurd (omega arith)
  within_full size there [] (suc n) e low high = absurd (omega arith)
  within_full size there (b ∷ rest) (suc zero) e low high = rw (eq-eqb (suc (length there)) size (omega arith))
  within_full size there (b ∷ rest) (suc (suc n)) e low high =
      let l = length-append there (b ∷ []) in
      rw (ne_eqb (suc (length there)) size (λ q. omega arith), within_full size (there ++ (b ∷ [])) rest (suc n) (omega arith) (omega arith) (omega arith), append_snoc there b (take (suc n) rest))
