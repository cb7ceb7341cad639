-- How many numbers bear a mark, and which: as many as places do, since no number that bears it stands twice. Assumes nothing.
use Prim.Native.Nat.{ℕ, zero, suc, ◌+◌, ◌≤◌, ◌<◌}
use mathlib.Core.Path.{◌≡◌, refl, sym, ◌∙◌, ap}
use mathlib.Core.Bool.{Bool, true, false, ◌&&◌, true≢false}
use mathlib.Core.List.{List, [], ◌∷◌}
use native.Mathlib.Nat.{sub-zero, not-suc-le-zero, le_of_suc-le-suc}
use native.Mathlib.Decide.{ℕ_discrete, dec_lt}
use native.Mathlib.Omega.{arith}
use borrow.Author.Tests.{leb-true, eq-eqb, ne_eqb, lt-ltb, le-ltb}
use lib.Dec.{ltb, eqb}
use lib.ListN.{length, set}
use Rattle.terms.specs.Ladder.{◌when◌else◌}
use Rattle.terms.specs.Lists.{all}
use Rattle.terms.proofs.Laws.{case, rung, and_both}
use Rattle.terms.specs.Answers.{Said, refusal}
use Rattle.receiver_ack.specs.Missing.{ascending}
use Rattle.sender_state.specs.Table.{◌!◌, count_of, place_of, replaced}
use Rattle.sender_state.specs.Numbers.{run, numbers_where, marked_with}
use Rattle.sender_resend.specs.Resend.{is_empty, is_in}
use Rattle.sender_state.proofs.Runs.{beyond, run_none, in_run, not_in}
use Rattle.sender_state.proofs.Search.{place_is}
use Rattle.sender_meaning.specs.Steps.{is_fair}

-- a test that was judged
pub by_bool : {C : Type 0} (b : Bool) → (b ≡ true → C) → (b ≡ false → C) → C
by_bool true f g = f refl
by_bool false f g = g refl

-- a rung that blames neither the rules nor the sizes
pub fair_rung : (n : ℕ) (test : Bool) (rest : Said) → is_fair (refusal n) ≡ true → is_fair rest ≡ true → is_fair (refusal n when test else rest) ≡ true
fair_rung n test rest e f = rung (λ (x : Said). is_fair x ≡ true) test (λ _. e) (λ _. f)

-- a number is in a run from 0 where it is below the end and passes
pub run_has : (p : ℕ → Bool) (next n : ℕ) → is_in (run p 0 next) n ≡ (ltb n next && p n)
run_has p next n =
    case
    (λ (q : n < next).
    by_bool (p n)
    (λ t. rw (lt-ltb n next q, t, in_run p n next 0 (omega arith) (omega arith) t))
    (λ f. rw (lt-ltb n next q, f, not_in p n next 0 (λ t _. true≢false (sym t ∙ f)))))
    (λ (q : n < next → ⊥). let b : next ≤ n = omega arith in rw (le-ltb n next b, not_in p n next 0 (λ _ h. omega arith)))
    (dec_lt n next)

-- a list without elements has no number in it
pub none_in : (l : List ℕ) → is_empty l ≡ true → (n : ℕ) → is_in l n ≡ false
none_in [] t n = refl
none_in (x ∷ l) t n = absurd (not-suc-le-zero (leb-true (length (x ∷ l)) 0 t))

-- tests that agree have the same run, and one that passes at one number more has one more in it
pub run_same : (p q : ℕ → Bool) → ((n : ℕ) → p n ≡ q n) → (from count : ℕ) → run p from count ≡ run q from count
run_same p q f from count = ap (λ (t : ℕ → Bool). run t from count) (λ k n. f n k)

pub run_within : (p q : ℕ → Bool) (count from : ℕ) → ((n : ℕ) → from ≤ n → n < from + count → p n ≡ q n) → run p from count ≡ run q from count
unfolding run
run_within p q zero from f = refl
run_within p q (suc count) from f = rw (f from (omega arith) (omega arith), run_within p q count (suc from) (λ n a b. f n (omega arith) (omega arith)))

module _ (p q : ℕ → Bool) (x : ℕ) (others : (n : ℕ) → (n ≡ x → ⊥) → p n ≡ q n) where
  after : (count from : ℕ) → x < from → run p from count ≡ run q from count
  unfolding run
  after zero from h = refl
  after (suc count) from h = rw (others from (λ e. omega arith), after count (suc from) (omega arith))

  run_more : p x ≡ true → q x ≡ false → (count from : ℕ) → from ≤ x → x < from + count → length (run p from count) ≡ suc (length (run q from count))
  unfolding run
  run_more t f zero from a b = absurd (omega arith)
  run_more t f (suc count) from a b =
      case
      (λ (e : from ≡ x). rw (e, t, f, after count (suc x) (omega arith)))
      (λ (o : from ≡ x → ⊥).
      let r = run_more t f count (suc from) (omega (arith, o)) (omega arith) in
      rw (others from o)
      (by_bool (q from) (λ e. rw e (ap suc r)) (λ e. rw e r)))
      (ℕ_discrete from x)

-- as many numbers bear a mark as places do
pub marked_count : (wanted next : ℕ) → 1 ≤ wanted → (numbers marks : List ℕ) → length numbers ≡ length marks
    → ((i : ℕ) → i < length marks → marks ! i ≡ wanted → numbers ! i < next)
    → ((i j : ℕ) → i < length marks → j < length marks → (i ≡ j → ⊥) → marks ! i ≡ wanted → numbers ! i ≡ numbers ! j → ⊥)
    → length (numbers_where numbers next (marked_with wanted marks)) ≡ count_of wanted marks
unfolding run
marked_count wanted next some [] [] long low lone =
    ap length (rw (sub-zero next) at (run_none (λ n. eqb 0 wanted) 0 next (λ m a b. ne_eqb 0 wanted (λ e. omega arith))))
marked_count wanted next some [] (m ∷ k) long low lone = absurd (omega arith)
marked_count wanted next some (x ∷ l) [] long low lone = absurd (omega arith)
marked_count wanted next some (x ∷ l) (m ∷ k) long low lone =
    let rest =
    marked_count wanted next some l k (omega arith)
    (λ i h e. low (suc i) (omega arith) e)
    (λ i j h g o e f. lone (suc i) (suc j) (omega arith) (omega arith) (λ z. o (omega arith)) e f) in
    case
    (λ (e : m ≡ wanted).
    run_more p q x others (rw (eq-eqb x x refl, eq-eqb m wanted e)) absent next 0 (omega arith) (omega (arith, low 0 (omega arith) e))
    ∙ rw (eq-eqb m wanted e) (ap suc rest ∙ (omega arith)))
    (λ (o : m ≡ wanted → ⊥).
    ap length (run_same p q (λ n. case (λ (e : n ≡ x). rw (e, eq-eqb x x refl, ne_eqb m wanted o) (sym absent)) (others n) (ℕ_discrete n x)) 0 next)
    ∙ rw (ne_eqb m wanted o) (rest ∙ (omega arith)))
    (ℕ_discrete m wanted) where
      p : ℕ → Bool
      p n = marked_with wanted (m ∷ k) (place_of (x ∷ l) n)

      q : ℕ → Bool
      q n = marked_with wanted k (place_of l n)

      others : (n : ℕ) → (n ≡ x → ⊥) → p n ≡ q n
      others n o = rw (ne_eqb x n (λ e. o (sym e)))

      absent : q x ≡ false
      absent =
          ne_eqb (k ! place_of l x) wanted
          (λ e.
          case
          (λ (h : place_of l x < length k).
          lone (suc (place_of l x)) 0 (omega arith) (omega arith) (λ z. omega arith) e (place_is l x (omega arith)))
          (λ (h : place_of l x < length k → ⊥). omega (arith, beyond k (place_of l x) 0 (omega arith), e))
          (dec_lt (place_of l x) (length k)))

-- a mark put where it was not counts one more, and places freed never count more
pub count_set : (x : ℕ) (l : List ℕ) (i : ℕ) → i < length l → (l ! i ≡ x → ⊥) → count_of x (set l i x) ≡ count_of x l + 1
count_set x [] i h o = absurd (not-suc-le-zero h)
count_set x (y ∷ l) zero h o = rw (eq-eqb x x refl, ne_eqb y x o) (omega arith)
count_set x (y ∷ l) (suc i) h o = rw (count_set x l i (le_of_suc-le-suc h) o) (omega arith)

pub count_freed : (x : ℕ) → 1 ≤ x → (p : ℕ → Bool) (i : ℕ) (l : List ℕ) → count_of x (replaced 0 p i l) ≤ count_of x l
unfolding replaced
count_freed x some p i [] = omega arith
count_freed x some p i (y ∷ l) =
    let r = count_freed x some p (suc i) l in
    by_bool (p i)
    (λ t. rw (t, ne_eqb 0 x (λ e. omega arith)) (omega arith))
    (λ f. rw f (omega arith))

-- the head of a run is its lowest number
pub run_lowest : (p : ℕ → Bool) (n : ℕ) → p n ≡ true → (count from : ℕ) → from ≤ n → n < from + count → run p from count ! 0 ≤ n
unfolding run
run_lowest p n t zero from a b = absurd (omega arith)
run_lowest p n t (suc count) from a b =
    by_bool (p from)
    (λ e. rw e a)
    (λ e.
    case
    (λ (q : from ≡ n). absurd (true≢false (sym t ∙ ap p (sym q) ∙ e)))
    (λ (o : from ≡ n → ⊥). rw e (run_lowest p n t count (suc from) (omega (arith, o)) (omega arith)))
    (ℕ_discrete from n))

-- a run ascends
run_above : (p : ℕ → Bool) (bound count from : ℕ) → bound < from → all (ltb bound) (run p from count) ≡ true
unfolding run
run_above p bound zero from h = refl
run_above p bound (suc count) from h =
    let rest = run_above p bound count (suc from) (omega arith) in
    by_bool (p from) (λ t. rw t (and_both (ltb bound from) _ (lt-ltb bound from h) rest)) (λ f. rw f rest)

pub run_ascending : (p : ℕ → Bool) (count from : ℕ) → ascending (run p from count) ≡ true
unfolding run
run_ascending p zero from = refl
run_ascending p (suc count) from =
    let rest = run_ascending p count (suc from) in
    by_bool (p from) (λ t. rw t (and_both (all (ltb from) (run p (suc from) count)) _ (run_above p from count (suc from) (omega arith)) rest)) (λ f. rw f rest)
