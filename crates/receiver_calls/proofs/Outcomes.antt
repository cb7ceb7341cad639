-- What accept and take leave, once the answer is known, and what holds where they are done. Assumes nothing.
use Prim.Native.Nat.{ℕ, ◌+◌, ◌-◌, ◌*◌, ◌%◌, ◌≤◌, ◌<◌}
use mathlib.Core.Path.{◌≡◌, sym}
use mathlib.Core.Bool.{true}
use mathlib.Core.List.{List, [], ◌∷◌}
use native.Mathlib.Nat.{mul-le-mul_right}
use native.Mathlib.Decide.{dec_le}
use native.Mathlib.Omega.{arith}
use lib.ListN.{length}
use Rattle.std.proofs.lemmas.Bool.Decides.{nat_tests}
use Rattle.terms.specs.Lists.{◌at_front_of◌}
use Rattle.terms.proofs.Laws.{case}
use Rattle.terms.specs.Answers.{refusal, values}
use Rattle.receiver_state.specs.Slots.{length_of, mark_of, filled}
use Rattle.receiver_state.specs.Rules.{rules_of}
use Rattle.terms.specs.declared.SeqNo.{SeqNo}
use Rattle.receiver_state.specs.declared.Receiver.{Receiver}
use Rattle.receiver_calls.specs.Accept.{accept_said, entering, accept_of}
use Rattle.receiver_calls.specs.Take.{next_mark, next_bytes, take_said, passing, take_of}
use Rattle.receiver_state.proofs.Facts.{Ruled, ruled, Sized, sized}

-- a slot lies within the store
pub slot_in : (slot number store_length : ℕ) → store_length ≡ 512 * slot → number % 512 * slot + slot ≤ store_length
slot_in slot number store_length e =
    let h : number % 512 + 1 ≤ 512 = omega arith in
    omega (arith, mul-le-mul_right slot h)

module _ (r : Receiver) (number : SeqNo) (payload store : List ℕ) where
  pub accept_refused : (n : ℕ) → accept_said r number (length payload) (length store) ≡ refusal n → accept_of r number payload store ≡ record { says = refusal n; state = r; lent = store }
  unfolding accept_of
  accept_refused n e = simp e

  pub accept_done : (given : List ℕ) → accept_said r number (length payload) (length store) ≡ values given
      → accept_of r number payload store ≡ record { says = values given; state = entering r number (length payload); lent = filled store r.head.slot number.0 payload }
  unfolding accept_of
  accept_done given e = simp e

-- what holds where a payload is accepted
pub record Passed (r : Receiver) (number : SeqNo) (size store_length : ℕ) (given : List ℕ) : Type 0 where
  pub rules_hold : rules_of r ≡ true
  pub sizes : Sized r.head.slot store_length
  pub usable : number.0 ≡ 4294967295 → ⊥
  pub new : r.head.next.0 ≤ number.0
  pub near : number.0 - r.head.next.0 < 512
  pub free : mark_of r.marks number.0 ≡ 0
  pub fits : size ≤ r.head.slot
  pub is : values [] ≡ values given

pub passed : (r : Receiver) (number : SeqNo) (size store_length : ℕ) (given : List ℕ) → accept_said r number size store_length ≡ values given → Passed r number size store_length given
unfolding accept_said
passed r number size store_length given h = record {
  rules_hold = grind (arith, nat_tests);
  sizes = sized r.head.slot store_length (grind (arith, nat_tests));
  usable = grind (arith, nat_tests);
  new = grind (arith, nat_tests);
  near = grind (arith, nat_tests);
  free = grind (arith, nat_tests);
  fits = grind (arith, nat_tests);
  is = grind (arith, nat_tests);
}

-- so its slot has room for it, and its mark 16 bits; the first part shows every variable, so that `grind` finds them
pub room_for : (r : Receiver) (number : SeqNo) (size store_length : ℕ) → values [] ≡ accept_said r number size store_length
    → (accept_said r number size store_length ≡ values []) × (number.0 % 512 * r.head.slot + size ≤ store_length) × (size ≤ 1812)
room_for r number size store_length e =
    let p = passed r number size store_length [] (sym e) in
    (sym e, omega (arith, slot_in r.head.slot number.0 store_length p.sizes.store), omega arith)

module _ (r : Receiver) (store output : List ℕ) where
  pub take_refused : (n : ℕ) → take_said r (length store) (length output) ≡ refusal n → take_of r store output ≡ record { says = refusal n; state = r; lent = output }
  unfolding take_of
  take_refused n e = simp e

  pub take_done : (given : List ℕ) → take_said r (length store) (length output) ≡ values given
      → take_of r store output ≡ record { says = values given; state = passing r; lent = next_bytes r store at_front_of output }
  unfolding take_of
  take_done given e = simp e

-- where something is held for a number of the span, the number is at most highest, and the length at most a slot
module _ (r : Receiver) (long : length r.marks ≡ 512) (f : Ruled r) where
  pub held_below : (number : ℕ) → r.head.next.0 ≤ number → number - r.head.next.0 < 512 → 1 ≤ mark_of r.marks number → number ≤ r.head.highest.0
  held_below number new near held =
      case
      (λ (h : number ≤ r.head.highest.0). h)
      (λ (h : number ≤ r.head.highest.0 → ⊥). absurd (omega (arith, f.free (number % 512) (omega arith) (omega arith))))
      (dec_le number r.head.highest.0)

  pub held_short : (number : ℕ) → length_of (mark_of r.marks number) ≤ r.head.slot
  held_short number = f.short (number % 512) (omega arith)

-- what holds where a payload is taken
pub record Gives (r : Receiver) (store_length room : ℕ) (given : List ℕ) : Type 0 where
  pub rules_hold : rules_of r ≡ true
  pub sizes : Sized r.head.slot store_length
  pub held : 1 ≤ next_mark r
  pub fits : length_of (next_mark r) ≤ room
  pub is : values (length_of (next_mark r) ∷ []) ≡ values given
  pub short : length_of (next_mark r) ≤ r.head.slot
  pub below : r.head.next.0 ≤ r.head.highest.0
  pub usable : r.head.highest.0 ≤ 4294967294

pub gives : (r : Receiver) (store_length room : ℕ) (given : List ℕ) → length r.marks ≡ 512 → take_said r store_length room ≡ values given → Gives r store_length room given
unfolding take_said
gives r store_length room given long h =
    let keeps : rules_of r ≡ true = grind (arith, nat_tests) in
    let held : 1 ≤ next_mark r = grind (arith, nat_tests) in
    let f = ruled r keeps in
    record {
      rules_hold = keeps;
      sizes = sized r.head.slot store_length (grind (arith, nat_tests));
      held = held;
      fits = grind (arith, nat_tests);
      is = grind (arith, nat_tests);
      short = held_short r long f r.head.next.0;
      below = held_below r long f r.head.next.0 (omega arith) (omega arith) held;
      usable = f.last;
    }

-- so what the slot holds lies in the store and fits the output, and next has a number behind it
pub held_for : (r : Receiver) (store_length room size : ℕ) → length r.marks ≡ 512 → values (size ∷ []) ≡ take_said r store_length room
    → (take_said r store_length room ≡ values (size ∷ [])) × (r.head.next.0 % 512 * r.head.slot + size ≤ store_length) × (size ≤ room) × (size ≡ length_of (next_mark r)) × (r.head.next.0 ≤ 4294967294)
held_for r store_length room size long e =
    let g = gives r store_length room (size ∷ []) long (sym e) in
    let is : size ≡ length_of (next_mark r) = let i = g.is in cc in
    (sym e, omega (arith, slot_in r.head.slot r.head.next.0 store_length g.sizes.store), omega arith, is, omega arith)
