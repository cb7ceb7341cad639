-- The loop that lists the missing numbers: after the numbers below n, those of them that are missing stand at the table's front.
-- Assumes nothing.
use Prim.Native.Nat.{ℕ, zero, suc, ◌+◌, ◌-◌, ◌≤◌, ◌<◌, max}
use mathlib.Core.Path.{◌≡◌, refl, sym, ◌∙◌, ap}
use mathlib.Core.Bool.{Bool, true, false}
use mathlib.Core.List.{List, [], ◌∷◌, ◌++◌, append_assoc, append-nil}
use native.Mathlib.Nat.{add-zero}
use native.Mathlib.Numerals.{add-one}
use native.Mathlib.Omega.{arith}
use lib.ListN.{length, get_or, drop, set, length-append}
use lib.Seq.{drop-cons, set-append_seam}
use Rattle.std.proofs.lemmas.Bool.Decides.{nat_tests}
use Rattle.terms.specs.Ladder.{◌when◌else◌}
use Rattle.terms.specs.Lists.{◌at_front_of◌}
use Rattle.receiver_ack.specs.Missing.{counted, those, not_held, missing_from}

counted_more : (first k : ℕ) → counted first (suc k) ≡ counted first k ++ ((first + k) ∷ [])
counted_more first zero = rw add-zero
counted_more first (suc k) =
    let e : suc first + k ≡ first + suc k = omega arith in
    ap (λ (l : List ℕ). first ∷ l) (counted_more (suc first) k ∙ ap (λ (m : ℕ). counted (suc first) k ++ (m ∷ [])) e)

those_append : (test : ℕ → Bool) (a b : List ℕ) → those test (a ++ b) ≡ those test a ++ those test b
those_append test [] b = refl
those_append test (n ∷ a) b = grind (arith, nat_tests, those_append test a b)

-- one number more behind those that stand at the front
one_behind : (l table : List ℕ) (n : ℕ) → length l < length table → set (l at_front_of table) (length l) n ≡ (l ++ (n ∷ [])) at_front_of table
one_behind l table n h =
    let long : length (l ++ (n ∷ [])) ≡ suc (length l) = rw length-append (add-one (length l)) in
    ap (λ (d : List ℕ). set (l ++ d) (length l) n) (drop-cons table (length l) 0 h)
    ∙ set-append_seam l (get_or table (length l) 0) (drop (suc (length l)) table) n
    ∙ sym (rw long (append_assoc l (n ∷ []) (drop (suc (length l)) table)))

-- of the numbers from next on, those below n
abbrev listed : (ℕ → Bool) → ℕ → ℕ → List ℕ
listed test next n = those test (counted next (n - next))

pub record Listed (test : ℕ → Bool) (next highest : ℕ) (before table : List ℕ) (count n : ℕ) : Type 0 where
  pub high : n ≤ max next (highest + 1)
  pub few : count ≤ n - next
  pub many : count ≡ length (listed test next n)
  pub are : table ≡ listed test next n at_front_of before

module _ (test : ℕ → Bool) (next highest : ℕ) (before : List ℕ) where
  listed_more : (n : ℕ) → next ≤ n → listed test next (n + 1) ≡ listed test next n ++ ((n ∷ []) when test n else [])
  listed_more n low =
      let e : n + 1 - next ≡ suc (n - next) = omega arith in
      let f : next + (n - next) ≡ n = omega arith in
      ap (λ (k : ℕ). those test (counted next k)) e
      ∙ ap (those test) (counted_more next (n - next))
      ∙ those_append test (counted next (n - next)) ((next + (n - next)) ∷ [])
      ∙ ap (λ (m : ℕ). listed test next n ++ ((m ∷ []) when test m else [])) f

  pub list_found : (table : List ℕ) (count n : ℕ) → Listed test next highest before table count n → next ≤ n → n ≤ highest → test n ≡ true → count < length before
      → Listed test next highest before (set table count n) (count + 1) (n + 1)
  list_found table count n l low within free room =
      let more : listed test next (n + 1) ≡ listed test next n ++ (n ∷ []) = listed_more n low ∙ rw free in
      record {
        high = omega arith;
        few = omega arith;
        many = rw (more, length-append) (omega (arith, l.many));
        are = rw (l.are, more, l.many) (one_behind (listed test next n) before n (omega (arith, l.many)));
      }

  pub list_passed : (table : List ℕ) (count n : ℕ) → Listed test next highest before table count n → next ≤ n → n ≤ highest → test n ≡ false → Listed test next highest before table count (n + 1)
  list_passed table count n l low within full =
      let more : listed test next (n + 1) ≡ listed test next n = listed_more n low ∙ rw full (append-nil (listed test next n)) in
      record { high = omega arith; few = omega arith; many = rw more l.many; are = rw more l.are }

-- past the last number it is the whole list
pub list_end : (next highest : ℕ) (marks : List ℕ) (n : ℕ) → next ≤ n → n ≤ max next (highest + 1) → highest < n → listed (not_held marks) next n ≡ missing_from next highest marks
unfolding missing_from
list_end next highest marks n low high past =
    let e : n - next ≡ highest + 1 - next = omega arith in
    rw e
