-- The state rules fact by fact, and back. Assumes nothing.
use Prim.Native.Nat.{ℕ, ◌+◌, ◌-◌, ◌*◌, ◌≤◌, ◌<◌}
use mathlib.Core.Path.{◌≡◌}
use mathlib.Core.Bool.{true, ◌&&◌, ◌||◌}
use mathlib.Core.List.{List}
use native.Mathlib.Nat.{zero-add}
use native.Mathlib.Omega.{arith}
use borrow.Author.Tests.{le-leb, leb-true}
use lib.Dec.{eqb}
use lib.ListN.{length, get_or}
use Rattle.std.proofs.lemmas.Bool.Decides.{nat_tests}
use Rattle.terms.specs.Lists.{all, each}
use Rattle.terms.proofs.Laws.{each_at, each_of, all_at, all_of}
use Rattle.receiver_state.specs.Slots.{is_held, mark_of, slot_number}
use Rattle.receiver_state.specs.Rules.{free_outside, length_at_most, numbers_of, rules_of, slot_fits, sizes_fit}
use Rattle.receiver_state.specs.declared.Receiver.{Receiver}

-- the two rules over the table, slot by slot
module _ (next highest : ℕ) (marks : List ℕ) where
  pub free_at : each (free_outside next highest) 0 marks ≡ true → (k : ℕ) → k < length marks → highest < slot_number next k → get_or marks k 0 ≡ 0
  free_at t k h a = grind (arith, nat_tests, zero-add, each_at (free_outside next highest) marks 0 t k h)

  pub free_of_lem : ((k : ℕ) → k < length marks → highest < slot_number next k → get_or marks k 0 ≡ 0) → each (free_outside next highest) 0 marks ≡ true
  free_of_lem f = each_of (free_outside next highest) marks 0 (λ k h. grind (arith, nat_tests, zero-add, f k h))

module _ (slot : ℕ) (marks : List ℕ) where
  pub short_at : all (length_at_most slot) marks ≡ true → (k : ℕ) → k < length marks → get_or marks k 0 - 1 ≤ slot
  short_at t k h = leb-true _ _ (all_at (length_at_most slot) marks t k h)

  pub short_of : ((k : ℕ) → k < length marks → get_or marks k 0 - 1 ≤ slot) → all (length_at_most slot) marks ≡ true
  short_of f = all_of (length_at_most slot) marks (λ k h. le-leb _ _ (f k h))

pub record Ruled (r : Receiver) : Type 0 where
  pub one : 1 ≤ r.head.next.0
  pub late : r.head.start.0 < r.head.next.0
  pub low : r.head.next.0 ≤ r.head.highest.0 + 1
  pub far : r.head.highest.0 ≤ r.head.next.0 + 511
  pub top : (r.head.highest.0 + 1 ≡ r.head.next.0 → ⊥) → 1 ≤ mark_of r.marks r.head.highest.0
  pub last : r.head.highest.0 ≤ 4294967294
  pub free : (k : ℕ) → k < length r.marks → r.head.highest.0 < slot_number r.head.next.0 k → get_or r.marks k 0 ≡ 0
  pub short : (k : ℕ) → k < length r.marks → get_or r.marks k 0 - 1 ≤ r.head.slot

module _ (r : Receiver) where
  abbrev next : ℕ
  next = r.head.next.0

  abbrev highest : ℕ
  highest = r.head.highest.0

  abbrev marks : List ℕ
  marks = r.marks

  pub ruled : rules_of r ≡ true → Ruled r
  unfolding rules_of
  ruled h0 =
      let free : each (free_outside next highest) 0 marks ≡ true = grind (arith, nat_tests) in
      let short : all (length_at_most r.head.slot) marks ≡ true = grind (arith, nat_tests) in
      record {
        one = grind (arith, nat_tests);
        late = grind (arith, nat_tests);
        low = grind (arith, nat_tests);
        far = grind (arith, nat_tests);
        top = λ n. grind (arith, nat_tests);
        last = grind (arith, nat_tests);
        free = free_at next highest marks free;
        short = short_at r.head.slot marks short;
      }

  pub rules_of_lem : Ruled r → rules_of r ≡ true
  unfolding rules_of
  rules_of_lem f =
      let free : each (free_outside next highest) 0 marks ≡ true = free_of_lem next highest marks f.free in
      let short : all (length_at_most r.head.slot) marks ≡ true = short_of r.head.slot marks f.short in
      grind (arith, nat_tests, f.one, f.late, f.low, f.far, f.top, f.last, free, short)

  -- the rules as the code tests them: those of the numbers, highest, and the two over the table
  pub rules_grouped : rules_of r ≡ (numbers_of r.head && ((is_held (mark_of marks highest) || eqb highest (next - 1)) && (each (free_outside next highest) 0 marks && all (length_at_most r.head.slot) marks)))
  unfolding rules_of
  rules_grouped = grind (arith, nat_tests)

pub record Sized (slot store_length : ℕ) : Type 0 where
  pub some : 1 ≤ slot
  pub most : slot ≤ 1812
  pub store : store_length ≡ 512 * slot

pub sized : (slot store_length : ℕ) → sizes_fit slot store_length ≡ true → Sized slot store_length
unfolding slot_fits sizes_fit
sized slot store_length h = record { some = grind (arith, nat_tests); most = grind (arith, nat_tests); store = grind (arith, nat_tests) }
