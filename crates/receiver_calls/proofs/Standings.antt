-- The standing of a number, from where it lies and what its mark says; and the bytes of a list when others are laid into it. Assumes nothing.
use Prim.Native.Nat.{ℕ, ◌+◌, ◌-◌, ◌%◌, ◌≤◌, ◌<◌, min}
use mathlib.Core.Path.{◌≡◌, refl, sym, ◌∙◌, ap}
use mathlib.Core.List.{List, ◌++◌}
use native.Mathlib.Decide.{dec_lt}
use native.Mathlib.Nat.{mul-le-mul_right}
use native.Mathlib.Omega.{arith}
use borrow.Author.Tests.{lt-ltb, le-ltb, eq-eqb, ne_eqb}
use lib.ListN.{length, get_or, take, drop, length-append, length-take, length-drop, get_or-append}
use lib.Seq.{ext_get_or, get_or-take, get_or-drop, length-take-le, get_or-append-add, take_at, drop_at}
use Rattle.terms.specs.Lists.{part, ◌at_front_of◌}
use Rattle.terms.proofs.Laws.{case}
use Rattle.receiver_state.specs.Slots.{mark_of, offset_of, filled, held_bytes}
use Rattle.receiver_calls.specs.Meaning.{taken, held, missing, unseen, standing}
use Rattle.receiver_state.specs.declared.Receiver.{Receiver}

module _ (r : Receiver) (store : List ℕ) (n : ℕ) where
  pub is_taken : n < r.head.next.0 → standing r store n ≡ taken
  unfolding standing
  is_taken a = simp (lt-ltb _ _ a)

  module _ (a : r.head.next.0 ≤ n) where
    pub is_unseen : r.head.highest.0 < n → standing r store n ≡ unseen
    unfolding standing
    is_unseen b = simp (le-ltb _ _ a, lt-ltb _ _ b)

    module _ (b : n ≤ r.head.highest.0) where
      pub is_missing_lem : mark_of r.marks n ≡ 0 → standing r store n ≡ missing
      unfolding standing
      is_missing_lem z = simp (le-ltb _ _ a, le-ltb _ _ b, eq-eqb _ _ z)

      pub is_held_lem : (mark_of r.marks n ≡ 0 → ⊥) → standing r store n ≡ held (held_bytes r.marks r.head.slot store n)
      unfolding standing
      is_held_lem z = simp (le-ltb _ _ a, le-ltb _ _ b, ne_eqb _ _ z)

-- two lists that agree from an index up to another have the same part there
pub part_same : (l m : List ℕ) (from to : ℕ) → length l ≡ length m → ((k : ℕ) → from ≤ k → k < to → get_or l k 0 ≡ get_or m k 0) → part l from to ≡ part m from to
part_same l m from to e f =
    ext_get_or 0 (part l from to) (part m from to)
    (simp (length-take, length-drop, e))
    (λ i h.
    let m' : i < min (to - from) (length l - from) = simp (length-take, length-drop) at h in
    let h' : i < to - from = omega arith in
    get_or-take (to - from) (drop from l) i 0 h' ∙ get_or-drop from l i 0 ∙ f (from + i) (omega arith) (omega arith) ∙ sym (get_or-take (to - from) (drop from m) i 0 h' ∙ get_or-drop from m i 0))

-- a list with bytes laid into it from an index on
module _ (l : List ℕ) (at : ℕ) (bytes : List ℕ) (fits : at + length bytes ≤ length l) where
  pub laid_length : length (take at l ++ (bytes at_front_of drop at l)) ≡ length l
  laid_length = simp (length-append, length-take, length-drop) (omega arith)

  -- what was laid stands there
  pub laid_here : part (take at l ++ (bytes at_front_of drop at l)) at (at + length bytes) ≡ bytes
  laid_here =
      let long : length (take at l) ≡ at = length-take-le at l (omega arith) in
      let e : at + length bytes - at ≡ length bytes = omega arith in
      rw (e, drop_at (take at l) (bytes at_front_of drop at l) at long) (take_at bytes (drop (length bytes) (drop at l)) (length bytes) refl)

  -- and nothing else was touched
  pub laid_before : (k : ℕ) → k < at → get_or (take at l ++ (bytes at_front_of drop at l)) k 0 ≡ get_or l k 0
  laid_before k h =
      get_or-append (take at l) (bytes at_front_of drop at l) 0 k (omega (arith, length-take-le at l (omega arith)))
      ∙ get_or-take at l k 0 h

  pub laid_after : (k : ℕ) → at + length bytes ≤ k → get_or (take at l ++ (bytes at_front_of drop at l)) k 0 ≡ get_or l k 0
  laid_after k h =
      let front = take at l in
      let back = drop (length bytes) (drop at l) in
      let j = k - (at + length bytes) in
      let long : length front ≡ at = length-take-le at l (omega arith) in
      let e : k ≡ length front + (length bytes + j) = omega (arith, long) in
      let f : at + (length bytes + j) ≡ k = omega arith in
      ap (λ (i : ℕ). get_or (front ++ (bytes ++ back)) i 0) e
      ∙ get_or-append-add front (bytes ++ back) (length bytes + j) 0
      ∙ get_or-append-add bytes back j 0
      ∙ get_or-drop (length bytes) (drop at l) j 0
      ∙ get_or-drop at l (length bytes + j) 0
      ∙ ap (λ (i : ℕ). get_or l i 0) f

module _ (store : List ℕ) (slot number : ℕ) (payload : List ℕ) (fits : offset_of slot number + length payload ≤ length store) where
  pub filled_length : length (filled store slot number payload) ≡ length store
  filled_length = laid_length store (offset_of slot number) payload fits

  -- what was stored stands at the front of its slot
  pub filled_here : part (filled store slot number payload) (offset_of slot number) (offset_of slot number + length payload) ≡ payload
  filled_here = laid_here store (offset_of slot number) payload fits

  -- every other slot is as it was
  pub filled_other : (m size : ℕ) → size ≤ slot → length payload ≤ slot → (m % 512 ≡ number % 512 → ⊥)
      → part (filled store slot number payload) (offset_of slot m) (offset_of slot m + size) ≡ part store (offset_of slot m) (offset_of slot m + size)
  filled_other m size short small apart =
      part_same (filled store slot number payload) store (offset_of slot m) (offset_of slot m + size) filled_length
      (λ k a b.
      case
      (λ (q : m % 512 < number % 512). laid_before store (offset_of slot number) payload fits k (omega (arith, mul-le-mul_right slot q)))
      (λ (q : m % 512 < number % 512 → ⊥).
      let q' : number % 512 + 1 ≤ m % 512 = omega (arith, apart) in
      laid_after store (offset_of slot number) payload fits k (omega (arith, mul-le-mul_right slot q')))
      (dec_lt (m % 512) (number % 512)))
