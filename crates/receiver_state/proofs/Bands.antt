-- The rules over the table, as the code tests them: by runs of slots. Assumes nothing.
use Prim.Native.Nat.{ℕ, ◌+◌, ◌-◌, ◌%◌, ◌≤◌, ◌<◌}
use mathlib.Core.Path.{◌≡◌}
use mathlib.Core.Bool.{true, ◌&&◌}
use mathlib.Core.List.{List}
use native.Mathlib.Decide.{dec_lt}
use native.Mathlib.Omega.{arith}
use borrow.Author.Tests.{le-leb, leb-true}
use lib.ListN.{length, get_or}
use Rattle.std.proofs.lemmas.Bool.Decides.{nat_tests}
use Rattle.terms.specs.Lists.{all, each, part}
use Rattle.terms.proofs.Laws.{case, bool_iff, part_at, part_of}
use Rattle.receiver_state.specs.Slots.{at_most, banded_of, slot_number}
use Rattle.receiver_state.specs.Rules.{free_outside, length_at_most}
use Rattle.receiver_state.proofs.Facts.{free_at, free_of_lem, short_at, short_of}

module _ (marks : List ℕ) (from to inner outer : ℕ) (high : to ≤ length marks) where
  -- the three runs that are tested
  pub record Runs : Type 0 where
    front : all (at_most outer) (part marks 0 from) ≡ true
    middle : all (at_most inner) (part marks from to) ≡ true
    back : all (at_most outer) (part marks to (length marks)) ≡ true

  runs : banded_of marks from to inner outer ≡ true → Runs
  runs t = record { front = grind (arith, nat_tests); middle = grind (arith, nat_tests); back = grind (arith, nat_tests) }

  pub band_in : banded_of marks from to inner outer ≡ true → (k : ℕ) → from ≤ k → k < to → get_or marks k 0 ≤ inner
  band_in t k a b = leb-true (get_or marks k 0) inner (part_at (at_most inner) marks from to (runs t).middle k a b (omega arith))

  pub band_out : banded_of marks from to inner outer ≡ true → (k : ℕ) → k < length marks → ((k < from → ⊥) → to ≤ k) → get_or marks k 0 ≤ outer
  band_out t k h o =
      case
      (λ (q : k < from). leb-true (get_or marks k 0) outer (part_at (at_most outer) marks 0 from (runs t).front k (omega arith) q h))
      (λ (q : k < from → ⊥). leb-true (get_or marks k 0) outer (part_at (at_most outer) marks to (length marks) (runs t).back k (o q) h h))
      (dec_lt k from)

  pub band_of : ((k : ℕ) → from ≤ k → k < to → get_or marks k 0 ≤ inner) → ((k : ℕ) → k < from → get_or marks k 0 ≤ outer)
      → ((k : ℕ) → to ≤ k → k < length marks → get_or marks k 0 ≤ outer)
      → banded_of marks from to inner outer ≡ true
  band_of f g h =
      let front = part_of (at_most outer) marks 0 from (λ k a b _. le-leb (get_or marks k 0) outer (g k b)) in
      let middle = part_of (at_most inner) marks from to (λ k a b _. le-leb (get_or marks k 0) inner (f k a b)) in
      let back = part_of (at_most outer) marks to (length marks) (λ k a b _. le-leb (get_or marks k 0) outer (h k a b)) in
      rw (front, middle, back)

-- the slots of next to highest are one run of the table, or one at its end and one at its front
module _ (slot next highest : ℕ) (marks : List ℕ) (long : length marks ≡ 512) where
  -- what a slot's mark may be, where its number is up to highest and where it is above
  record Right (k : ℕ) : Type 0 where
    below : slot_number next k ≤ highest → get_or marks k 0 ≤ slot + 1
    above : highest < slot_number next k → get_or marks k 0 ≤ 0

  right_at : (each (free_outside next highest) 0 marks && all (length_at_most slot) marks) ≡ true → (k : ℕ) → k < 512 → Right k
  right_at t k h =
      let frees : each (free_outside next highest) 0 marks ≡ true = grind (arith, nat_tests) in
      let shorts : all (length_at_most slot) marks ≡ true = grind (arith, nat_tests) in
      let free = free_at next highest marks frees k (omega arith) in
      let short = short_at slot marks shorts k (omega arith) in
      record { below = λ _. omega (arith, short); above = λ a. omega (arith, free a) }

  right_of : ((k : ℕ) → k < 512 → Right k) → (each (free_outside next highest) 0 marks && all (length_at_most slot) marks) ≡ true
  right_of f =
      let frees = free_of_lem next highest marks (λ k h a. omega (arith, (f k (omega arith)).above a)) in
      let shorts =
      short_of slot marks
      (λ k h.
      case
      (λ (q : highest < slot_number next k). omega (arith, (f k (omega arith)).above q))
      (λ (q : highest < slot_number next k → ⊥). omega (arith, (f k (omega arith)).below (omega arith)))
      (dec_lt highest (slot_number next k))) in
      rw (frees, shorts)

  module _ (low : next ≤ highest + 1) (far : highest ≤ next + 511) (end : ℕ) (is : end ≡ next % 512 + (highest + 1 - next)) where
    pub one_run : end ≤ 512
        → banded_of marks (next % 512) end (slot + 1) 0 ≡ (each (free_outside next highest) 0 marks && all (length_at_most slot) marks)
    one_run fit =
        bool_iff (banded_of marks (next % 512) end (slot + 1) 0) (each (free_outside next highest) 0 marks && all (length_at_most slot) marks)
        (λ t.
        right_of
        (λ k h. record {
          below = λ a. band_in marks (next % 512) end (slot + 1) 0 (omega arith) t k (omega arith) (omega arith);
          above = λ a. band_out marks (next % 512) end (slot + 1) 0 (omega arith) t k (omega arith) (λ q. omega arith);
        }))
        (λ t.
        band_of marks (next % 512) end (slot + 1) 0 (omega arith)
        (λ k a b. (right_at t k (omega arith)).below (omega arith))
        (λ k a. (right_at t k (omega arith)).above (omega arith))
        (λ k a b. (right_at t k (omega arith)).above (omega arith)))

    pub two_runs : 512 < end
        → banded_of marks (end - 512) (next % 512) 0 (slot + 1) ≡ (each (free_outside next highest) 0 marks && all (length_at_most slot) marks)
    two_runs over =
        bool_iff (banded_of marks (end - 512) (next % 512) 0 (slot + 1)) (each (free_outside next highest) 0 marks && all (length_at_most slot) marks)
        (λ t.
        right_of
        (λ k h. record {
          below = λ a. band_out marks (end - 512) (next % 512) 0 (slot + 1) (omega arith) t k (omega arith) (λ q. omega arith);
          above = λ a. band_in marks (end - 512) (next % 512) 0 (slot + 1) (omega arith) t k (omega arith) (omega arith);
        }))
        (λ t.
        band_of marks (end - 512) (next % 512) 0 (slot + 1) (omega arith)
        (λ k a b. (right_at t k (omega arith)).above (omega arith))
        (λ k a. (right_at t k (omega arith)).below (omega arith))
        (λ k a b. (right_at t k (omega arith)).below (omega arith)))
