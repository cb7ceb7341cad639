-- Each of the seven cases decides the answer. Assumes nothing.
use Prim.Native.Nat.{ℕ, ◌+◌, ◌-◌, ◌≤◌, ◌<◌}
use mathlib.Core.Path.{◌≡◌, refl, sym, ◌∙◌}
use mathlib.Core.Bool.{true, false, ◌&&◌, true≢false}
use native.Mathlib.Decide.{dec_lt}
use native.Mathlib.Omega.{arith}
use borrow.Author.Tests.{le-leb, lt-leb, lt-ltb, le-ltb, eq-eqb, ne_eqb, leb-true, eqb-true}
use lib.Dec.{leb}
use Rattle.terms.proofs.Laws.{case, and_left, and_right}
use Rattle.receiver_state.specs.Slots.{is_free, mark_of}
use Rattle.receiver_calls.specs.Meaning.{is_missing}
use Rattle.receiver_state.specs.declared.Receiver.{Receiver}
use Rattle.receiver_state.proofs.Facts.{Ruled}
use Rattle.receiver_why.specs.Reasons.{below_start, was_taken, is_ready, behind_gap, never_came, not_yet_seen, beyond_span, case_of, smallest_missing}
use Rattle.receiver_why.proofs.Smallest.{First, first_is}

module _ (r : Receiver) (n : ℕ) where
  abbrev next : ℕ
  next = r.head.next.0

  abbrev highest : ℕ
  highest = r.head.highest.0

  -- missing, from its parts and back
  pub missing_of_lem : next ≤ n → n ≤ highest → mark_of r.marks n ≡ 0 → is_missing r n ≡ true
  missing_of_lem a b z = simp (le-leb next n a, le-leb n highest b, eq-eqb (mark_of r.marks n) 0 z)

  pub record Lacks : Type 0 where
    pub new : next ≤ n
    pub seen : n ≤ highest
    pub free : mark_of r.marks n ≡ 0

  pub lacks : is_missing r n ≡ true → Lacks
  lacks t =
      let inner = and_right (leb next n) (leb n highest && is_free (mark_of r.marks n)) t in
      record {
        new = leb-true next n (and_left (leb next n) (leb n highest && is_free (mark_of r.marks n)) t);
        seen = leb-true n highest (and_left (leb n highest) (is_free (mark_of r.marks n)) inner);
        free = eqb-true (mark_of r.marks n) 0 (and_right (leb n highest) (is_free (mark_of r.marks n)) inner);
      }

  pub not_missing : (next ≤ n → n ≤ highest → mark_of r.marks n ≡ 0 → ⊥) → is_missing r n ≡ false
  not_missing f = no (is_missing r n) (λ t. let l = lacks t in f l.new l.seen l.free)
    where
      no : (b : _) → (b ≡ true → ⊥) → b ≡ false
      no true g = absurd (g refl)
      no false g = refl

  pub below_is : n ≤ r.head.start.0 → case_of r n ≡ below_start
  unfolding case_of
  below_is a = simp (le-leb _ _ a)

  module _ (after : r.head.start.0 < n) where
    pub taken_is : n < next → case_of r n ≡ was_taken
    unfolding case_of
    taken_is a = simp (lt-leb _ _ after, lt-ltb _ _ a)

    module _ (new : next ≤ n) where
      pub beyond_is : 512 ≤ n - next → case_of r n ≡ beyond_span
      unfolding case_of
      beyond_is a = simp (lt-leb _ _ after, le-ltb _ _ new, le-leb _ _ a)

      module _ (near : n - next < 512) where
        pub unseen_is : highest < n → case_of r n ≡ not_yet_seen
        unfolding case_of
        unseen_is a = simp (lt-leb _ _ after, le-ltb _ _ new, lt-leb _ _ near, lt-ltb _ _ a)

        module _ (seen : n ≤ highest) where
          pub never_is : mark_of r.marks n ≡ 0 → case_of r n ≡ never_came
          unfolding case_of
          never_is a = simp (lt-leb _ _ after, le-ltb _ _ new, lt-leb _ _ near, le-ltb _ _ seen, eq-eqb _ _ a)

          module _ (full : mark_of r.marks n ≡ 0 → ⊥) where
            pub gap_is : smallest_missing r < n → case_of r n ≡ behind_gap
            unfolding case_of
            gap_is a = simp (lt-leb _ _ after, le-ltb _ _ new, lt-leb _ _ near, le-ltb _ _ seen, ne_eqb _ _ full, lt-ltb _ _ a)

            pub ready_is : n ≤ smallest_missing r → case_of r n ≡ is_ready
            unfolding case_of
            ready_is a = simp (lt-leb _ _ after, le-ltb _ _ new, lt-leb _ _ near, le-ltb _ _ seen, ne_eqb _ _ full, le-ltb _ _ a)

-- what is known of the smallest missing number of a state that keeps the rules
module _ (r : Receiver) (f : Ruled r) where
  pub smallest_first : First r.marks r.head.next.0 (r.head.highest.0 + 1 - r.head.next.0) (smallest_missing r)
  smallest_first = first_is r.marks r.head.next.0 (r.head.highest.0 + 1 - r.head.next.0)

  -- nothing is missing below it,
  pub none_below : (m : ℕ) → m < smallest_missing r → is_missing r m ≡ false
  none_below m a = not_missing r m (λ b c z. omega (arith, smallest_first.before m b a))

  -- and below highest it is missing
  pub is_smallest : smallest_missing r ≤ r.head.highest.0 → is_missing r (smallest_missing r) ≡ true
  is_smallest a = missing_of_lem r (smallest_missing r) smallest_first.low a (smallest_first.free (omega (arith, f.low)))

  -- it is at most any that is missing
  pub at_most : (m : ℕ) → is_missing r m ≡ true → smallest_missing r ≤ m
  at_most m t =
      case
      (λ (a : m < smallest_missing r). absurd (true≢false (sym t ∙ none_below m a)))
      (λ (a : m < smallest_missing r → ⊥). omega arith)
      (dec_lt m (smallest_missing r))
