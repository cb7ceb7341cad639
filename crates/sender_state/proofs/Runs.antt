-- Runs of numbers that pass a test, ascending. Assumes nothing.
use Prim.Native.Nat.{ℕ, zero, suc, ◌+◌, ◌-◌, ◌≤◌, ◌<◌}
use mathlib.Core.Path.{◌≡◌, refl, sym, ◌∙◌, ap}
use mathlib.Core.Bool.{Bool, true, false, and-false}
use mathlib.Core.List.{List, [], ◌∷◌, ◌++◌}
use native.Mathlib.Nat.{zero-add, add-zero, suc-add, not-suc-le-zero, le_of_suc-le-suc}
use native.Mathlib.Numerals.{add-one}
use native.Mathlib.Decide.{ℕ_discrete, dec_lt}
use native.Mathlib.Omega.{arith}
use borrow.Author.Tests.{eq-eqb, ne_eqb}
use lib.ListN.{length, get_or}
use Rattle.terms.specs.Ladder.{◌when◌else◌}
use Rattle.terms.proofs.Laws.{case, all_of, rung}
use Rattle.sender_state.specs.Table.{◌!◌, differs}
use Rattle.sender_state.specs.Numbers.{run}
use Rattle.terms.specs.Lists.{all}

-- past the end a list has nothing
pub beyond : (l : List ℕ) (i : ℕ) (d : ℕ) → length l ≤ i → get_or l i d ≡ d
beyond [] i d h = refl
beyond (x ∷ l) zero d h = absurd (not-suc-le-zero h)
beyond (x ∷ l) (suc i) d h = beyond l i d (le_of_suc-le-suc h)

-- inside a list the default is not read
pub get_d_any : (l : List ℕ) (k a b : ℕ) → k < length l → get_or l k a ≡ get_or l k b
get_d_any [] k a b h = absurd (not-suc-le-zero h)
get_d_any (x ∷ l) zero a b h = refl
get_d_any (x ∷ l) (suc k) a b h = get_d_any l k a b (le_of_suc-le-suc h)

-- a run: numbers that fail are passed over, one that passes is its head
module _ (p : ℕ → Bool) where
  skip : (d from e : ℕ) → ((m : ℕ) → from ≤ m → m < from + d → p m ≡ false) → run p from (d + e) ≡ run p (from + d) e
  unfolding run
  skip zero from e f = rw (zero-add, add-zero)
  skip (suc d) from e f =
      rw (suc-add d e, f from (omega arith) (omega arith))
      (skip d (suc from) e (λ m a b. f m (omega arith) (omega arith)) ∙ ap (λ (k : ℕ). run p k e) (omega arith))

  pub run_from : (from n next : ℕ) → from ≤ n → n ≤ next → ((m : ℕ) → from ≤ m → m < n → p m ≡ false) → run p from (next - from) ≡ run p n (next - n)
  run_from from n next a b f =
      let e : next - from ≡ (n - from) + (next - n) = omega arith in
      let g : from + (n - from) ≡ n = omega arith in
      ap (run p from) e ∙ skip (n - from) from (next - n) (λ m x y. f m x (omega arith)) ∙ ap (λ (k : ℕ). run p k (next - n)) g

  pub run_none : (from next : ℕ) → ((m : ℕ) → from ≤ m → m < next → p m ≡ false) → run p from (next - from) ≡ []
  unfolding run
  run_none from next f =
      case
      (λ (q : from < next). run_from from next next (omega arith) (omega arith) f ∙ (let e : next - next ≡ 0 = omega arith in rw e))
      (λ (q : from < next → ⊥). let e : next - from ≡ 0 = omega arith in rw e)
      (dec_lt from next)

  pub run_head : (n next : ℕ) → n < next → p n ≡ true → run p n (next - n) ≡ n ∷ run p (n + 1) (next - (n + 1))
  unfolding run
  run_head n next h t =
      let e : next - n ≡ suc (next - (n + 1)) = omega arith in
      rw (e, t, add-one)

-- what holds of the head, where it is kept, and of each of the rest
both : (P : ℕ → Type 0) (t : Bool) (x : ℕ) (l : List ℕ) (k : ℕ) → (t ≡ true → P x) → ((k : ℕ) → k < length l → P (l ! k)) → k < length ((x ∷ l) when t else l) → P (((x ∷ l) when t else l) ! k)
both P true x l zero f g h = f refl
both P true x l (suc k) f g h = g k (le_of_suc-le-suc h)
both P false x l k f g h = g k h

-- each number of a run passes, and lies below its end
module _ (p : ℕ → Bool) where
  pub run_passes : (count from k : ℕ) → k < length (run p from count) → p (run p from count ! k) ≡ true
  unfolding run
  run_passes zero from k h = absurd (not-suc-le-zero h)
  run_passes (suc count) from k h = both (λ n. p n ≡ true) (p from) from (run p (suc from) count) k (λ e. e) (λ k h. run_passes count (suc from) k h) h

  pub run_below : (count from k : ℕ) → k < length (run p from count) → run p from count ! k < from + count
  unfolding run
  run_below zero from k h = absurd (not-suc-le-zero h)
  run_below (suc count) from k h =
      both (λ n. n < from + suc count) (p from) from (run p (suc from) count) k (λ e. omega arith) (λ k h. omega (arith, run_below count (suc from) k h)) h

-- a number is in a run where it passes and lies within it, and else not
module _ (p : ℕ → Bool) (n : ℕ) where
  pub in_run : (count from : ℕ) → from ≤ n → n < from + count → p n ≡ true → all (differs n) (run p from count) ≡ false
  unfolding run
  in_run zero from a b t = absurd (omega arith)
  in_run (suc count) from a b t =
      case
      (λ (e : from ≡ n). rw (ap p e ∙ t, eq-eqb from n e))
      (λ (o : from ≡ n → ⊥).
      rung (λ (l : List ℕ). all (differs n) l ≡ false) (p from)
      (λ _. rw (in_run count (suc from) (omega (arith, o)) (omega arith) t) (and-false (differs n from)))
      (λ _. in_run count (suc from) (omega (arith, o)) (omega arith) t))
      (ℕ_discrete from n)

  pub not_in : (count from : ℕ) → (p n ≡ true → n < from + count → ⊥) → all (differs n) (run p from count) ≡ true
  not_in count from f =
      all_of (differs n) (run p from count)
      (λ k h. rw (ne_eqb (run p from count ! k) n (λ e. f (sym (ap p e) ∙ run_passes p count from k h) (omega (arith, run_below p count from k h)))))

-- a run in two parts
pub run_append : (p : ℕ → Bool) (a from b : ℕ) → run p from (a + b) ≡ run p from a ++ run p (from + a) b
unfolding run
run_append p zero from b = rw (zero-add, add-zero)
run_append p (suc a) from b =
    rw (suc-add a b, run_append p a (suc from) b)
    (ap (λ (k : ℕ). (from ∷ (run p (suc from) a ++ run p k b)) when p from else (run p (suc from) a ++ run p k b)) (omega arith) ∙ joins (p from))
  where
    joins : (t : Bool) → ((from ∷ (run p (suc from) a ++ run p (from + suc a) b)) when t else (run p (suc from) a ++ run p (from + suc a) b))
        ≡ ((from ∷ run p (suc from) a) when t else run p (suc from) a) ++ run p (from + suc a) b
    joins true = refl
    joins false = refl
