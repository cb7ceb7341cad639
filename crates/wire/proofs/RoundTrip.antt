-- Writing a number and spelling bytes undo each other, for every width: each byte is one digit of the number to the base 256, and no
-- digit is lost as long as the number fits its width and each byte is below 256. Assumes nothing.
use Prim.Native.Nat.{ℕ, zero, suc, ◌+◌, ◌*◌, ◌/◌, ◌%◌, ◌^◌, ◌≤◌, ◌<◌}
use mathlib.Core.Path.{◌≡◌, refl, sym, ◌∙◌, ap}
use mathlib.Core.Bool.{Bool, true}
use mathlib.Core.List.{List, [], ◌∷◌, ◌++◌, append_assoc}
use native.Mathlib.Nat.{add-zero, mul-zero, mul_assoc, pow-succ', mod-lt, mod-eq_of_lt, div-eq_of_lt, div-add-mod', mul-add-div_right, mul-add-mod_self_right, mul-le-mul_right}
use native.Mathlib.Omega.{arith}
use borrow.Author.Tests.{ltb-true}
use lib.Dec.{ltb}
use lib.ListN.{length, take, drop, length-drop, take-append-drop}
use lib.Seq.{take_at, drop_at, drop-drop, take-append-le, drop-append-le, length-take-le}
use Rattle.terms.specs.Lists.{all}
use Rattle.terms.proofs.Laws.{and_left, and_right}
use Rattle.wire.specs.BigEndian.{is_byte, spelled, bytes_of, bytes_of_each, number_at, numbers_at}
use Rattle.wire.proofs.Laws.{length_bytes}

power_some : (k : ℕ) → 0 < 256 ^ k
power_some zero = omega arith
power_some (suc k) = omega (arith, power_some k)

-- the number that the k lowest bytes of x spell
spelled_cut : (k x : ℕ) → spelled (bytes_of k x) ≡ x % 256 ^ k
spelled_cut zero x = omega arith
spelled_cut (suc k) x =
    let B = 256 ^ k in
    let q = x / B in
    let a : q * B + x % B ≡ x = div-add-mod' x B in
    let b : q / 256 * 256 + q % 256 ≡ q = div-add-mod' q 256 in
    let c : x % B < B = mod-lt x (power_some k) in
    let d : q % 256 * B + x % B < 256 * B = omega (arith, c, mul-le-mul_right B (mod-lt q {m = 256} (omega arith))) in
    let e : q / 256 * (256 * B) + (q % 256 * B + x % B) ≡ x = omega (arith, a, ap (λ (m : ℕ). m * B) b) in
    rw (length_bytes k x, spelled_cut k x, pow-succ' 256 k)
    (sym (mod-eq_of_lt d) ∙ sym (mul-add-mod_self_right (q / 256) (256 * B) (q % 256 * B + x % B)) ∙ ap (λ (m : ℕ). m % (256 * B)) e)

-- the bytes of a number that fits its width spell it
pub spelled_bytes : (k x : ℕ) → x < 256 ^ k → spelled (bytes_of k x) ≡ x
spelled_bytes k x h = spelled_cut k x ∙ mod-eq_of_lt h

-- bytes spell a number that fits as many bytes
pub spelled_small : (l : List ℕ) → all is_byte l ≡ true → spelled l < 256 ^ length l
spelled_small [] h = omega arith
spelled_small (b ∷ l) h =
    let s = spelled_small l (and_right (is_byte b) (all is_byte l) h) in
    omega (arith, s, pow-succ' 256 (length l), mul-le-mul_right (256 ^ length l) (ltb-true b 256 (and_left (is_byte b) (all is_byte l) h)))

-- what lies above the k lowest bytes is cut
bytes_cut : (k c y : ℕ) → bytes_of k (c * 256 ^ k + y) ≡ bytes_of k y
bytes_cut zero c y = refl
bytes_cut (suc k) c y =
    let e : c * 256 ^ suc k + y ≡ c * 256 * 256 ^ k + y = rw (pow-succ', mul_assoc) in
    let d : (c * 256 * 256 ^ k + y) / 256 ^ k ≡ c * 256 + y / 256 ^ k = mul-add-div_right (power_some k) (c * 256) y in
    rw (e, d, mul-add-mod_self_right c 256 (y / 256 ^ k), bytes_cut k (c * 256) y)

-- the number that bytes spell has those bytes
pub bytes_spelled : (l : List ℕ) → all is_byte l ≡ true → bytes_of (length l) (spelled l) ≡ l
bytes_spelled [] h = refl
bytes_spelled (b ∷ l) h =
    let low = ltb-true b 256 (and_left (is_byte b) (all is_byte l) h) in
    let rest = and_right (is_byte b) (all is_byte l) h in
    let d : (b * 256 ^ length l + spelled l) / 256 ^ length l ≡ b + spelled l / 256 ^ length l = mul-add-div_right (power_some (length l)) b (spelled l) in
    rw (d, div-eq_of_lt (spelled_small l rest), add-zero, mod-eq_of_lt low, bytes_cut (length l) b (spelled l), bytes_spelled l rest)

-- a test that passes at each element passes at each of a part's
pub all_take : (t : ℕ → Bool) (n : ℕ) (l : List ℕ) → all t l ≡ true → all t (take n l) ≡ true
all_take t zero l h = refl
all_take t (suc n) [] h = refl
all_take t (suc n) (x ∷ l) h = rw (and_left (t x) (all t l) h) (all_take t n l (and_right (t x) (all t l) h))

pub all_drop : (t : ℕ → Bool) (n : ℕ) (l : List ℕ) → all t l ≡ true → all t (drop n l) ≡ true
all_drop t zero l h = h
all_drop t (suc n) [] h = refl
all_drop t (suc n) (x ∷ l) h = all_drop t n l (and_right (t x) (all t l) h)

-- Of a packet p: what its bytes spell, written in front of the bytes behind them, is what stood there.
module _ (p : List ℕ) (bytes : all is_byte p ≡ true) where
  pub number_small : (k at : ℕ) → at + k ≤ length p → number_at k at p < 256 ^ k
  number_small k at h =
      let long : length (take k (drop at p)) ≡ k = length-take-le k (drop at p) (simp length-drop (omega arith)) in
      rw long at (spelled_small (take k (drop at p)) (all_take is_byte k (drop at p) (all_drop is_byte at p bytes)))

  pub peel : (k at : ℕ) → at + k ≤ length p → bytes_of k (number_at k at p) ++ drop (at + k) p ≡ drop at p
  peel k at h =
      let part = take k (drop at p) in
      let long : length part ≡ k = length-take-le k (drop at p) (simp length-drop (omega arith)) in
      let whole : bytes_of k (spelled part) ≡ part = rw long at (bytes_spelled part (all_take is_byte k (drop at p) (all_drop is_byte at p bytes))) in
      rw (whole, ← drop-drop k at p) (take-append-drop k (drop at p))

  pub peel_each : (k n at : ℕ) → at + k * n ≤ length p → bytes_of_each k (numbers_at k n at p) ++ drop (at + k * n) p ≡ drop at p
  peel_each k zero at h = rw (mul-zero, add-zero)
  peel_each k (suc n) at h =
      let e : at + k * suc n ≡ at + k + k * n = omega arith in
      rw (append_assoc, e, peel_each k n (at + k) (rw e at h)) (peel k at (omega arith))

-- The other way: numbers that stand in p are read as they are.
pub length_numbers : (k n at : ℕ) (p : List ℕ) → length (numbers_at k n at p) ≡ n
length_numbers k zero at p = refl
length_numbers k (suc n) at p = ap suc (length_numbers k n (at + k) p)

-- past the n bytes w that stand at `at`
pub past : (at n to : ℕ) (p w r : List ℕ) → drop at p ≡ w ++ r → length w ≡ n → at + n ≡ to → drop to p ≡ r
past at n to p w r e l t = rw (← t, ← drop-drop n at p, e) (drop_at w r n l)

-- those bytes are the part of p there
pub part_here : (at n : ℕ) (p w r : List ℕ) → drop at p ≡ w ++ r → length w ≡ n → take n (drop at p) ≡ w
part_here at n p w r e l = rw e (take_at w r n l)

-- and where they are a number's, the number is read
pub number_here : (k x at : ℕ) (p r : List ℕ) → x < 256 ^ k → drop at p ≡ bytes_of k x ++ r → number_at k at p ≡ x
number_here k x at p r h e = rw (part_here at k p (bytes_of k x) r e (length_bytes k x)) (spelled_bytes k x h)

-- x fits k bytes
abbrev pub fits : ℕ → ℕ → Bool
fits k x = ltb x (256 ^ k)

-- the same of several numbers, one behind the other
pub numbers_here : (k : ℕ) (xs : List ℕ) (at : ℕ) (p r : List ℕ) → all (fits k) xs ≡ true → drop at p ≡ bytes_of_each k xs ++ r
    → numbers_at k (length xs) at p ≡ xs
numbers_here k [] at p r h e = refl
numbers_here k (x ∷ xs) at p r h e =
    let f : drop at p ≡ bytes_of k x ++ (bytes_of_each k xs ++ r) = e ∙ append_assoc (bytes_of k x) (bytes_of_each k xs) r in
    let n = number_here k x at p (bytes_of_each k xs ++ r) (ltb-true x (256 ^ k) (and_left (fits k x) (all (fits k) xs) h)) f in
    let g = past at k (at + k) p (bytes_of k x) (bytes_of_each k xs ++ r) f (length_bytes k x) refl in
    rw (n, numbers_here k xs (at + k) p r (and_right (fits k x) (all (fits k) xs) h) g)

-- four bytes each, from the front
pub each_numbers : (xs r : List ℕ) → all (fits 4) xs ≡ true → numbers_at 4 (length xs) 0 (bytes_of_each 4 xs ++ r) ≡ xs
each_numbers xs r h = numbers_here 4 xs 0 (bytes_of_each 4 xs ++ r) r h refl

-- a number that stands in d, where p goes on from a as d
pub number_moved : (k i a : ℕ) (p d r : List ℕ) → drop a p ≡ d ++ r → i + k ≤ length d → number_at k (a + i) p ≡ number_at k i d
number_moved k i a p d r e h =
    let long : k ≤ length (drop i d) = simp length-drop (omega arith) in
    rw (← drop-drop i a p, e, drop-append-le i d r (omega arith), take-append-le k (drop i d) r long)

-- and several of them, one behind the other
pub numbers_moved : (k n i a : ℕ) (p d r : List ℕ) → drop a p ≡ d ++ r → i + k * n ≤ length d → numbers_at k n (a + i) p ≡ numbers_at k n i d
numbers_moved k zero i a p d r e h = refl
numbers_moved k (suc n) i a p d r e h =
    let s : k * suc n ≡ k + k * n = omega arith in
    let next : a + i + k ≡ a + (i + k) = omega arith in
    rw (number_moved k i a p d r e (omega arith), next, numbers_moved k n (i + k) a p d r e (omega arith))
