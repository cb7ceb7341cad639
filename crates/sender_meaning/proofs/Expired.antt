-- Which numbers expire, told by the standings alone and both ways: the expired are a front of the numbers that fly, cut before the first that is
-- not old and at the window. They ascend, so that each counts once. Assumes nothing.
use Prim.Native.Nat.{ℕ, zero, suc, ◌+◌, ◌-◌, ◌≤◌, ◌<◌}
use mathlib.Core.Path.{◌≡◌, refl, sym, ◌∙◌, ap}
use mathlib.Core.Bool.{Bool, true, true≢false}
use mathlib.Core.List.{List, [], ◌∷◌}
use mathlib.Core.Logic.{◌↔◌}
use native.Mathlib.Nat.{sub-zero}
use native.Mathlib.Decide.{ℕ_discrete}
use native.Mathlib.Omega.{arith}
use borrow.Author.Tests.{ltb-true, lt-ltb, eq-eqb, ne_eqb}
use lib.Dec.{leb, ltb}
use lib.ListN.{length, take}
use lib.Seq.{take-nil}
use Rattle.terms.proofs.Laws.{case, and_left, and_right, and_both}
use Rattle.terms.specs.Lists.{all}
use Rattle.timer.specs.Timer.{rto_of}
use Rattle.receiver_ack.specs.Missing.{ascending}
use Rattle.receiver_ack.proofs.Among.{ascending_take}
use Rattle.sender_state.specs.Table.{is_waiting, is_flying, place_of}
use Rattle.sender_state.specs.declared.Sender.{Sender}
use Rattle.sender_state.specs.Numbers.{run, marked_with, in_flight}
use Rattle.sender_resend.specs.Resend.{run_while, aged, expired_of, is_in}
use Rattle.sender_meaning.specs.Meaning.{Standing, unmade, waits, flies, gone, mark_of, sent_of, standing, does_fly}
use Rattle.sender_meaning.specs.Steps.{is_old, IsExpired}
use Rattle.sender_meaning.proofs.Counts.{by_bool, run_within, run_ascending}
use Rattle.sender_meaning.proofs.Stands.{flies_told}
use Rattle.sender_meaning.proofs.Again.{all_while}

-- a number is in the front of a run: it and every lower one of the run pass, and those are fewer than it may have
module _ (p a : ℕ → Bool) (n : ℕ) where
  record Front (from count most : ℕ) : Type 0 where
    above : from ≤ n
    below : n < from + count
    passes : p n ≡ true
    old : a n ≡ true
    lower : (m : ℕ) → from ≤ m → m < n → p m ≡ true → a m ≡ true
    few : length (run p from (n - from)) < most

  -- how many are lower, from one number on and from the next one on
  fewer : (from : ℕ) → from < n → p from ≡ true → length (run p from (n - from)) ≡ suc (length (run p (suc from) (n - suc from)))
  unfolding run
  fewer from h t = let e : n - from ≡ suc (n - suc from) = omega arith in rw (e, t)

  as_few : (from : ℕ) → from < n → (p from ≡ true → ⊥) → length (run p from (n - from)) ≡ length (run p (suc from) (n - suc from))
  unfolding run
  as_few from h o = let e : n - from ≡ suc (n - suc from) = omega arith in rw e (by_bool (p from) (λ t. absurd (o t)) (λ f. rw f))

  -- a front from a number on, by one from the next number on
  more : (from count most most' : ℕ) → Front (suc from) count most → (p from ≡ true → a from ≡ true) → length (run p from (n - from)) < most' → Front from (suc count) most'
  more from count most most' f first few = record {
    above = omega (arith, f.above);
    below = omega (arith, f.below);
    passes = f.passes;
    old = f.old;
    lower = λ m x y t.
        case
        (λ (e : from ≡ m). rw (← e) (first (ap p e ∙ t)))
        (λ (o : from ≡ m → ⊥). f.lower m (omega (arith, o)) y t)
        (ℕ_discrete from m);
    few = few;
  }

  less : (from count most most' : ℕ) → Front from (suc count) most → from < n → length (run p (suc from) (n - suc from)) < most' → Front (suc from) count most'
  less from count most most' f h few = record {
    above = h;
    below = omega (arith, f.below);
    passes = f.passes;
    old = f.old;
    lower = λ m x y t. f.lower m (omega arith) y t;
    few = few;
  }

  in_front_of : (count from most : ℕ) → is_in (take most (run_while a (run p from count))) n ≡ true → Front from count most
  unfolding run
  in_front_of zero from most t = absurd (true≢false (sym t ∙ ap (λ (l : List ℕ). is_in l n) (take-nil most)))
  in_front_of (suc count) from zero t = absurd (true≢false (sym t))
  in_front_of (suc count) from (suc most) t =
      by_bool (p from)
      (λ e.
      by_bool (a from)
      (λ old.
      case
      (λ (q : from ≡ n).
      let none : n - from ≡ 0 = omega arith in
      record {
        above = omega arith;
        below = omega arith;
        passes = sym (ap p q) ∙ e;
        old = sym (ap a q) ∙ old;
        lower = λ m x y. absurd (omega arith);
        few = rw none (omega arith);
      })
      (λ (o : from ≡ n → ⊥).
      let f = in_front_of count (suc from) most (rw (e, old, ne_eqb from n o) at t) in
      more from count most (suc most) f (λ _. old) (omega (arith, f.few, fewer from f.above e)))
      (ℕ_discrete from n))
      (λ young. absurd (true≢false (sym (rw (e, young) at t)))))
      (λ skips.
      let f = in_front_of count (suc from) (suc most) (rw skips at t) in
      let o : p from ≡ true → ⊥ = λ x. true≢false (sym x ∙ skips) in
      more from count (suc most) (suc most) f (λ x. absurd (o x)) (omega (arith, f.few, as_few from f.above o)))

  of_front : (count from most : ℕ) → Front from count most → is_in (take most (run_while a (run p from count))) n ≡ true
  unfolding run
  of_front zero from most f = absurd (omega (arith, f.above, f.below))
  of_front (suc count) from zero f = absurd (omega (arith, f.few))
  of_front (suc count) from (suc most) f =
      case
      (λ (q : from ≡ n). rw (ap p q ∙ f.passes, ap a q ∙ f.old, eq-eqb from n q))
      (λ (o : from ≡ n → ⊥).
      let h : from < n = omega (arith, f.above, o) in
      by_bool (p from)
      (λ e.
      rw (e, f.lower from (omega arith) h e, ne_eqb from n o)
      (of_front count (suc from) most (less from count (suc most) most f h (omega (arith, f.few, fewer from h e)))))
      (λ skips.
      rw skips
      (of_front count (suc from) (suc most)
      (less from count (suc most) (suc most) f h (omega (arith, f.few, as_few from h (λ x. true≢false (sym x ∙ skips))))))))
      (ℕ_discrete from n)

-- what is old flies, and its age is by the time at which it was sent
old_flies : (rto clock : ℕ) (x : Standing) → is_old rto clock x ≡ true → does_fly x ≡ true
old_flies rto clock unmade t = absurd (true≢false (sym t))
old_flies rto clock (waits packet) t = absurd (true≢false (sym t))
old_flies rto clock (flies packet sent) t = refl
old_flies rto clock gone t = absurd (true≢false (sym t))

module _ (s : Sender) (store : List ℕ) where
  old_told : (rto clock n : ℕ) → does_fly (standing s store n) ≡ true → is_old rto clock (standing s store n) ≡ ltb rto (clock - sent_of s n)
  unfolding standing
  old_told rto clock n t =
      by_bool (leb s.next.0 n)
      (λ e. absurd (true≢false (sym (rw e at t))))
      (λ e.
      by_bool (is_waiting (mark_of s n))
      (λ w. absurd (true≢false (sym (rw (e, w) at t))))
      (λ w.
      by_bool (is_flying (mark_of s n))
      (λ f. rw (e, w, f))
      (λ f. absurd (true≢false (sym (rw (e, w, f) at t))))))

  -- the numbers in flight are those below next that fly
  in_flight_run : in_flight s ≡ run (λ n. does_fly (standing s store n)) 0 s.next.0
  in_flight_run =
      run_within (λ n. marked_with 2 s.marks (place_of s.numbers n)) (λ n. does_fly (standing s store n)) s.next.0 0
      (λ n a b. let h : n < s.next.0 = omega arith in rw (lt-ltb n s.next.0 h) at (flies_told s store n))

  -- expired are the numbers whose standing, and that of every lower one, says so
  pub expired_is : (clock n : ℕ) → (is_in (expired_of s clock) n ≡ true) ↔ IsExpired s store clock n
  expired_is clock n =
      let p : ℕ → Bool = λ m. does_fly (standing s store m) in
      let rto = rto_of s.timing in
      let a = aged s.numbers s.sent clock rto in (
        λ t.
            let f = in_front_of p a n s.next.0 0 s.window (rw in_flight_run at t) in
            record {
              old = old_told rto clock n f.passes ∙ f.old;
              lower_old = λ m h e. old_told rto clock m e ∙ f.lower m (omega arith) h e;
              few = let few = rw (sub-zero n) at f.few in omega (arith, few);
            },
        λ e.
            let flying = old_flies rto clock (standing s store n) e.old in
            rw in_flight_run
            (of_front p a n s.next.0 0 s.window
            (record {
              above = omega arith;
              below = omega (arith, ltb-true n s.next.0 (and_left (ltb n s.next.0) _ (flies_told s store n ∙ flying)));
              passes = flying;
              old = sym (old_told rto clock n flying) ∙ e.old;
              lower = λ m x h g. sym (old_told rto clock m g) ∙ e.lower_old m h g;
              few = rw (sub-zero n) (omega (arith, e.few));
            })),
      )

-- and they ascend
ascending_while : (p : ℕ → Bool) (l : List ℕ) → ascending l ≡ true → ascending (run_while p l) ≡ true
ascending_while p [] t = refl
ascending_while p (x ∷ l) t =
    by_bool (p x)
    (λ e. rw e (and_both (all (ltb x) (run_while p l)) _ (all_while (ltb x) p l (and_left (all (ltb x) l) _ t)) (ascending_while p l (and_right (all (ltb x) l) (ascending l) t))))
    (λ e. rw e)

pub expired_ascending : (s : Sender) (clock : ℕ) → ascending (expired_of s clock) ≡ true
expired_ascending s clock =
    ascending_take s.window (run_while (aged s.numbers s.sent clock (rto_of s.timing)) (in_flight s))
    (ascending_while (aged s.numbers s.sent clock (rto_of s.timing)) (in_flight s)
    (run_ascending (λ n. marked_with 2 s.marks (place_of s.numbers n)) s.next.0 0))
