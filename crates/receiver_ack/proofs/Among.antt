-- Which numbers are among the missing, and in which order they stand. Assumes nothing.
use Prim.Native.Nat.{ℕ, zero, suc, ◌+◌, ◌-◌, ◌≤◌, ◌<◌}
use mathlib.Core.Path.{◌≡◌, refl}
use mathlib.Core.Bool.{Bool, true, false, ◌&&◌, or-true}
use mathlib.Core.List.{List, [], ◌∷◌}
use native.Mathlib.Nat.{not-suc-le-zero}
use native.Mathlib.Omega.{arith}
use lib.Dec.{leb, ltb, eqb}
use lib.ListN.{length, get_or, take}
use Rattle.std.proofs.lemmas.Bool.Decides.{nat_tests}
use Rattle.terms.specs.Lists.{all}
use Rattle.terms.proofs.Laws.{all_at}
use Rattle.wire.proofs.RoundTrip.{all_take}
use Rattle.receiver_ack.specs.Missing.{counted, those, not_held, missing_from, is_among, ascending}

-- what holds of each number among them holds of all
pub all_among : (test : ℕ → Bool) (l : List ℕ) → ((n : ℕ) → is_among n l ≡ true → test n ≡ true) → all test l ≡ true
all_among test [] f = refl
all_among test (m ∷ l) f =
    let rest = all_among test l (λ n h. f n (rw h (or-true (eqb n m)))) in
    grind (arith, nat_tests, f m, rest)

-- of those that pass a test
pub among_those : (test : ℕ → Bool) (n : ℕ) (l : List ℕ) → is_among n (those test l) ≡ (is_among n l && test n)
among_those test n [] = refl
among_those test n (m ∷ l) = grind (arith, nat_tests, among_those test n l)

-- of numbers counted up
pub among_counted : (n first k : ℕ) → is_among n (counted first k) ≡ (leb first n && ltb n (first + k))
among_counted n first zero = grind (arith, nat_tests)
among_counted n first (suc k) = grind (arith, nat_tests, among_counted n (suc first) k)

-- numbers from next to highest not held
pub missing_among : (next highest : ℕ) (marks : List ℕ) (n : ℕ) → is_among n (missing_from next highest marks) ≡ (leb next n && (leb n highest && not_held marks n))
unfolding missing_from
missing_among next highest marks n =
    grind (arith, nat_tests, among_those (not_held marks) n (counted next (highest + 1 - next)), among_counted n next (highest + 1 - next))

-- so each of them lies from next to highest
pub missing_within : (next highest : ℕ) (marks : List ℕ) → all (λ n. leb next n && leb n highest) (missing_from next highest marks) ≡ true
missing_within next highest marks =
    all_among (λ n. leb next n && leb n highest) (missing_from next highest marks) (λ n h. grind (arith, nat_tests, missing_among next highest marks n))

pub missing_at : (next highest : ℕ) (marks : List ℕ) (k : ℕ) → k < length (missing_from next highest marks)
    → (next ≤ get_or (missing_from next highest marks) k 0) × (get_or (missing_from next highest marks) k 0 ≤ highest)
missing_at next highest marks k h =
    let t = all_at (λ n. leb next n && leb n highest) (missing_from next highest marks) (missing_within next highest marks) k h in
    (grind (arith, nat_tests, t), grind (arith, nat_tests, t))

-- and they ascend
all_those : (p test : ℕ → Bool) (l : List ℕ) → all p l ≡ true → all p (those test l) ≡ true
all_those p test [] h = refl
all_those p test (n ∷ l) h = grind (arith, nat_tests, all_those p test l)

ascending_those : (test : ℕ → Bool) (l : List ℕ) → ascending l ≡ true → ascending (those test l) ≡ true
ascending_those test [] h = refl
ascending_those test (n ∷ l) h = grind (arith, nat_tests, all_those (ltb n) test l, ascending_those test l)

above_counted : (n first k : ℕ) → n < first → all (ltb n) (counted first k) ≡ true
above_counted n first zero h = refl
above_counted n first (suc k) h = grind (arith, nat_tests, above_counted n (suc first) k)

ascending_counted : (first k : ℕ) → ascending (counted first k) ≡ true
ascending_counted first zero = refl
ascending_counted first (suc k) = grind (arith, nat_tests, above_counted first (suc first) k, ascending_counted (suc first) k)

pub missing_ascending : (next highest : ℕ) (marks : List ℕ) → ascending (missing_from next highest marks) ≡ true
unfolding missing_from
missing_ascending next highest marks = ascending_those (not_held marks) (counted next (highest + 1 - next)) (ascending_counted next (highest + 1 - next))

pub ascending_take : (k : ℕ) (l : List ℕ) → ascending l ≡ true → ascending (take k l) ≡ true
ascending_take zero l h = refl
ascending_take (suc k) [] h = refl
ascending_take (suc k) (n ∷ l) h = grind (arith, nat_tests, all_take (ltb n) k l, ascending_take k l)

-- a number that is not above a bound below all of them is not among them
none_below : (n bound : ℕ) (l : List ℕ) → all (ltb bound) l ≡ true → n ≤ bound → is_among n l ≡ false
none_below n bound [] h low = refl
none_below n bound (m ∷ l) h low = grind (arith, nat_tests, none_below n bound l)

-- below the element at k, what is among them is among the first k
pub among_first : (n k : ℕ) (l : List ℕ) → ascending l ≡ true → k < length l → n < get_or l k 0 → is_among n (take k l) ≡ is_among n l
among_first n k [] h within low = absurd (not-suc-le-zero within)
among_first n zero (m ∷ l) h within low = grind (arith, nat_tests, none_below n m l)
among_first n (suc k) (m ∷ l) h within low = grind (arith, nat_tests, among_first n k l)

-- ascending numbers are at least as large as their places
climbs_from : (bound k : ℕ) (l : List ℕ) → all (leb bound) l ≡ true → ascending l ≡ true → k < length l → bound + k ≤ get_or l k 0
climbs_from bound k [] h a within = absurd (not-suc-le-zero within)
climbs_from bound zero (n ∷ l) h a within = grind (arith, nat_tests)
climbs_from bound (suc k) (n ∷ l) h a within = grind (arith, nat_tests, climbs_from (suc n) k l)

pub climbs : (k : ℕ) (l : List ℕ) → ascending l ≡ true → k < length l → k ≤ get_or l k 0
climbs k l a within = omega (arith, climbs_from 0 k l (all_among (leb 0) l (λ n h. grind (arith, nat_tests))) a within)

pub all_implies : (p q : ℕ → Bool) (l : List ℕ) → ((n : ℕ) → p n ≡ true → q n ≡ true) → all p l ≡ true → all q l ≡ true
all_implies p q [] f h = refl
all_implies p q (n ∷ l) f h = grind (arith, nat_tests, f n, all_implies p q l f)
