-- Laws of big-endian numbers, each once for every width. Assumes nothing.
use Prim.Native.Nat.{ℕ, zero, suc, ◌+◌, ◌*◌, ◌<◌}
use mathlib.Core.Path.{◌≡◌, refl, sym, ap}
use mathlib.Core.List.{List, [], ◌∷◌, ◌++◌, append_assoc, append-nil}
use native.Mathlib.Nat.{add_comm, mul-zero, mul-suc}
use native.Mathlib.Numerals.{add-one}
use lib.ListN.{length, get_or, take, length-append}
use lib.Seq.{take-suc}
use Rattle.wire.specs.BigEndian.{bytes_of, bytes_of_each}

pub length_bytes : (k x : ℕ) → length (bytes_of k x) ≡ k
length_bytes zero x = refl
length_bytes (suc k) x = ap suc (length_bytes k x)

pub length_each : (k : ℕ) (xs : List ℕ) → length (bytes_of_each k xs) ≡ k * length xs
length_each k [] = sym (mul-zero k)
length_each k (x ∷ xs) = rw (length-append, length_bytes, length_each k xs, mul-suc) (add_comm k (k * length xs))

pub each_append : (k : ℕ) (xs ys : List ℕ) → bytes_of_each k (xs ++ ys) ≡ bytes_of_each k xs ++ bytes_of_each k ys
each_append k [] ys = refl
each_append k (x ∷ xs) ys = rw (each_append k xs ys) (sym (append_assoc (bytes_of k x) (bytes_of_each k xs) (bytes_of_each k ys)))

-- one number more
pub each_more : (k : ℕ) (xs : List ℕ) (j : ℕ) → j < length xs → bytes_of_each k (take (j + 1) xs) ≡ bytes_of_each k (take j xs) ++ bytes_of k (get_or xs j 0)
each_more k xs j h = rw (add-one, take-suc xs j 0 h, each_append) (ap (λ (l : List ℕ). bytes_of_each k (take j xs) ++ l) (append-nil (bytes_of k (get_or xs j 0))))
