-- Numbers on the wire: big-endian, the first byte counting most.
use Rattle.std.specs.Prelude.{ℕ, zero, suc, ◌+◌, ◌*◌, ◌/◌, ◌%◌, ◌^◌, Bool, List, [], ◌∷◌, ◌++◌, ltb, length, take, drop}

-- what one byte holds
abbrev pub is_byte : ℕ → Bool
is_byte b = ltb b 256

-- the number that bytes spell
abbrev pub spelled : List ℕ → ℕ
spelled [] = 0
spelled (b ∷ bs) = b * 256 ^ length bs + spelled bs

-- the k bytes that spell x, of which the part above 256 ^ k is cut
abbrev pub bytes_of : ℕ → ℕ → List ℕ
bytes_of zero x = []
bytes_of (suc k) x = x / 256 ^ k % 256 ∷ bytes_of k x

-- the number that the k bytes of s from at spell
abbrev pub number_at : ℕ → ℕ → List ℕ → ℕ
number_at k at s = spelled (take k (drop at s))

-- numbers one behind the other, k bytes each
abbrev pub bytes_of_each : ℕ → List ℕ → List ℕ
bytes_of_each k [] = []
bytes_of_each k (x ∷ xs) = bytes_of k x ++ bytes_of_each k xs

-- the n numbers that stand from at, k bytes each
abbrev pub numbers_at : ℕ → ℕ → ℕ → List ℕ → List ℕ
numbers_at k zero at s = []
numbers_at k (suc n) at s = number_at k at s ∷ numbers_at k n (at + k) s
