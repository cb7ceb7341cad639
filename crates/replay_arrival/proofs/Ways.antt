-- The packet's NACKs one by one. Assumes nothing.
use Prim.Native.Nat.{ℕ, zero, suc, ◌+◌, ◌*◌}
use mathlib.Core.Path.{◌≡◌}
use mathlib.Core.List.{List, [], ◌∷◌, ◌++◌}
use native.Mathlib.Numerals.{add-one}
use native.Mathlib.Omega.{arith}
use Rattle.wire.specs.BigEndian.{number_at, numbers_at}

-- one more of the numbers that stand from at
pub numbers_more : (k n at : ℕ) (p : List ℕ) → numbers_at k (n + 1) at p ≡ numbers_at k n at p ++ (number_at k (at + k * n) p ∷ [])
numbers_more k zero at p = let e : at + k * 0 ≡ at = omega arith in rw e
numbers_more k (suc n) at p =
    let e : at + k * suc n ≡ at + k + k * n = omega arith in
    let rest = rw (add-one n) at (numbers_more k n (at + k) p) in
    rw (add-one (suc n), e, rest)
