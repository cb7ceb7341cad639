-- The state rules fact by fact, and back; and as the code tests them. Assumes nothing.
use Prim.Native.Nat.{ℕ, ◌+◌, ◌*◌, ◌≤◌, ◌<◌}
use mathlib.Core.Path.{◌≡◌, refl, sym, subst}
use mathlib.Core.Bool.{Bool, true, false, ◌&&◌, ◌||◌, not}
use mathlib.Core.List.{List}
use native.Mathlib.Nat.{zero-add, mul-le-mul_right}
use native.Mathlib.Decide.{dec_lt}
use native.Mathlib.Omega.{arith}
use borrow.Author.Tests.{le-leb, leb-true, lt-ltb, le-ltb, ltb-true, ltb-false, eq-eqb, ne_eqb, eqb-true, eqb-false, not-true, not-false}
use lib.Dec.{leb, ltb, eqb}
use lib.ListN.{length, get_or}
use Rattle.terms.specs.Lists.{each}
use Rattle.terms.proofs.Laws.{case, and_left, and_right, and_both, each_at, each_of, or_right, or_of, or_false_left, or_false_right}
use Rattle.timer.specs.Timer.{timing_fits}
use Rattle.sender_state.specs.Table.{◌!◌, is_free, is_waiting, is_flying, count_of}
use Rattle.sender_state.specs.Numbers.{offset_of}
use Rattle.sender_state.specs.Rules.{each_place, apart, below_waiting, below, some_number, free_from, is_emptied, empty_where_free, unsent, sent_in_time, length_within, never_resent, known_values, timer_fits, rules, counts_fit, sizes_fit, clock_wrong}
use Rattle.sender_state.specs.Places.{place_at}
use Rattle.sender_state.specs.declared.Place.{Place}
use Rattle.sender_state.specs.declared.Sender.{Sender}

-- a test at each place
pub at_place : (p : ℕ → ℕ → Bool) (l : List ℕ) → each p 0 l ≡ true → (k : ℕ) → k < length l → p k (l ! k) ≡ true
at_place p l t k h = subst (λ (m : ℕ). p m (get_or l k 0) ≡ true) (zero-add k) (each_at p l 0 t k h)

pub of_places : (p : ℕ → ℕ → Bool) (l : List ℕ) → ((k : ℕ) → k < length l → p k (l ! k) ≡ true) → each p 0 l ≡ true
of_places p l f = each_of p l 0 (λ k h. subst (λ (m : ℕ). p m (get_or l k 0) ≡ true) (sym (zero-add k)) (f k h))

-- an exception that does not hold, and one that may
pub unless_at : (a b : Bool) → (b || a) ≡ true → b ≡ false → a ≡ true
unless_at a b t e = or_right b a e t

and_false : (a b : Bool) → (a ≡ true → b ≡ true → ⊥) → (a && b) ≡ false
and_false true true f = absurd (f refl refl)
and_false true false f = refl
and_false false b f = refl

or_both_false : (a b : Bool) → a ≡ false → b ≡ false → (a || b) ≡ false
or_both_false a b p q = rw (p, q)

pub record Ruled (s : Sender) : Type 0 where
  pub distinct : (i j : ℕ) → i < length s.marks → j < length s.marks → (i ≡ j → ⊥) → (s.marks ! i ≡ 0 → ⊥) → (s.marks ! j ≡ 0 → ⊥) → s.numbers ! i ≡ s.numbers ! j → ⊥
  pub low : (i : ℕ) → i < length s.marks → (s.marks ! i ≡ 0 → ⊥) → s.numbers ! i < s.next.0
  pub order : (i j : ℕ) → i < length s.marks → j < length s.marks → s.marks ! i ≡ 2 → s.marks ! j ≡ 1 → s.numbers ! i < s.numbers ! j
  pub some : (i : ℕ) → i < length s.marks → (s.marks ! i ≡ 0 → ⊥) → 1 ≤ s.numbers ! i
  pub next_some : 1 ≤ s.next.0
  pub shut : (i : ℕ) → i < length s.marks → s.count ≤ i → s.marks ! i ≡ 0
  pub no_number : (i : ℕ) → i < length s.marks → s.marks ! i ≡ 0 → s.numbers ! i ≡ 0
  pub no_length : (i : ℕ) → i < length s.marks → s.marks ! i ≡ 0 → s.lengths ! i ≡ 0
  pub no_time : (i : ℕ) → i < length s.marks → s.marks ! i ≡ 0 → s.sent ! i ≡ 0
  pub no_resent : (i : ℕ) → i < length s.marks → s.marks ! i ≡ 0 → s.resent ! i ≡ 0
  pub not_sent : (i : ℕ) → i < length s.marks → s.marks ! i ≡ 1 → s.sent ! i ≡ 0
  pub few : count_of 2 s.marks ≤ 128
  pub past : (i : ℕ) → i < length s.marks → s.sent ! i ≤ s.clock
  pub due : timer_fits s.timer s.clock ≡ true
  pub window_some : 1 ≤ s.window
  pub window_most : s.window ≤ 128
  pub timing : timing_fits s.timing ≡ true
  pub long : (i : ℕ) → i < length s.marks → (s.marks ! i ≡ 0 → ⊥) → 22 ≤ s.lengths ! i
  pub short : (i : ℕ) → i < length s.marks → (s.marks ! i ≡ 0 → ⊥) → s.lengths ! i ≤ s.chunk + 1044
  pub clock_most : s.clock ≤ 1000000000000000
  pub unresent : (i : ℕ) → i < length s.marks → s.marks ! i ≡ 1 → s.resent ! i ≡ 0
  pub known : (i : ℕ) → i < length s.marks → s.marks ! i ≤ 2
  pub once_or_more : (i : ℕ) → i < length s.marks → s.resent ! i ≤ 1

-- the same of the places of a state
module _ (s : Sender) where
  at_each : (p : ℕ → Place → Bool) → each_place s p ≡ true → (i : ℕ) → i < length s.marks → p i (place_at s i) ≡ true
  at_each p = at_place (λ i mark. p i (place_at s i)) s.marks

  of_each : (p : ℕ → Place → Bool) → ((i : ℕ) → i < length s.marks → p i (place_at s i) ≡ true) → each_place s p ≡ true
  of_each p = of_places (λ i mark. p i (place_at s i)) s.marks

  pub ruled : rules s ≡ true → Ruled s
  unfolding rules
  ruled h0 =
      let m = s.marks in
      let numbers = s.numbers in
      let at = place_at s in
      let h1 = and_right (each_place s (λ i p. each_place s (apart i p))) _ h0 in
      let h2 = and_right (each_place s (λ i. below s.next.0)) _ h1 in
      let h3 = and_right (each_place s (λ i p. each_place s (λ j. below_waiting p))) _ h2 in
      let h4 = and_right (each_place s (λ i. some_number)) _ h3 in
      let h5 = and_right (leb 1 s.next.0) _ h4 in
      let h6 = and_right (each_place s (free_from s.count)) _ h5 in
      let h7 = and_right (each_place s (λ i. empty_where_free)) _ h6 in
      let h8 = and_right (each_place s (λ i. unsent)) _ h7 in
      let h9 = and_right (leb (count_of 2 m) 128) _ h8 in
      let h10 = and_right (each_place s (λ i. sent_in_time s.clock)) _ h9 in
      let h11 = and_right (timer_fits s.timer s.clock) _ h10 in
      let h12 = and_right (leb 1 s.window) _ h11 in
      let h13 = and_right (leb s.window 128) _ h12 in
      let h14 = and_right (timing_fits s.timing) _ h13 in
      let h15 = and_right (each_place s (λ i. length_within s.chunk)) _ h14 in
      let h16 = and_right (leb s.clock 1000000000000000) _ h15 in
      let r0 = and_left (each_place s (λ i p. each_place s (apart i p))) _ h0 in
      let r1 = and_left (each_place s (λ i. below s.next.0)) _ h1 in
      let r2 = and_left (each_place s (λ i p. each_place s (λ j. below_waiting p))) _ h2 in
      let r3 = and_left (each_place s (λ i. some_number)) _ h3 in
      let r5 = and_left (each_place s (free_from s.count)) _ h5 in
      let r6 = and_left (each_place s (λ i. empty_where_free)) _ h6 in
      let r7 = and_left (each_place s (λ i. unsent)) _ h7 in
      let r9 = and_left (each_place s (λ i. sent_in_time s.clock)) _ h9 in
      let r14 = and_left (each_place s (λ i. length_within s.chunk)) _ h14 in
      let r16 = and_left (each_place s (λ i. never_resent)) _ h16 in
      let r17 = and_right (each_place s (λ i. never_resent)) (each_place s (λ i. known_values)) h16 in
      let vacant : (i : ℕ) → i < length m → m ! i ≡ 0 → is_emptied (at i) ≡ true =
      λ i h z. unless_at (is_emptied (at i)) (not (is_free (m ! i))) (at_each (λ i. empty_where_free) r6 i h) (rw (eq-eqb _ _ z)) in
      let timeless : (i : ℕ) → i < length m → m ! i ≡ 0 → (eqb (s.sent ! i) 0 && eqb (s.resent ! i) 0) ≡ true =
      λ i h z. and_right (eqb (s.lengths ! i) 0) _ (and_right (eqb (numbers ! i) 0) _ (vacant i h z)) in
      let within : (i : ℕ) → i < length m → (m ! i ≡ 0 → ⊥) → (leb 22 (s.lengths ! i) && leb (s.lengths ! i) (s.chunk + 1044)) ≡ true =
      λ i h n. unless_at (leb 22 (s.lengths ! i) && leb (s.lengths ! i) (s.chunk + 1044)) (is_free (m ! i)) (at_each (λ i. length_within s.chunk) r14 i h) (ne_eqb _ _ n) in
      record {
        distinct = λ i j h k o a b e.
            let t = at_each (apart i (at i)) (at_each (λ i p. each_place s (apart i p)) r0 i h) j k in
            let u = unless_at (not (eqb (numbers ! i) (numbers ! j))) (eqb i j || (is_free (m ! i) || is_free (m ! j))) t (or_both_false _ _ (ne_eqb _ _ o) (or_both_false _ _ (ne_eqb _ _ a) (ne_eqb _ _ b))) in
            eqb-false _ _ (not-true _ u) e;
        low = λ i h n. ltb-true _ _ (unless_at (ltb (numbers ! i) s.next.0) (is_free (m ! i)) (at_each (λ i. below s.next.0) r1 i h) (ne_eqb _ _ n));
        order = λ i j h k a b.
            let t = at_each (λ j. below_waiting (at i)) (at_each (λ i p. each_place s (λ j. below_waiting p)) r2 i h) j k in
            ltb-true _ _ (unless_at (ltb (numbers ! i) (numbers ! j)) (not (is_flying (m ! i) && is_waiting (m ! j))) t (rw (eq-eqb _ _ a, eq-eqb _ _ b)));
        some = λ i h n. leb-true _ _ (unless_at (leb 1 (numbers ! i)) (is_free (m ! i)) (at_each (λ i. some_number) r3 i h) (ne_eqb _ _ n));
        next_some = leb-true _ _ (and_left (leb 1 s.next.0) _ h4);
        shut = λ i h a. eqb-true _ _ (unless_at (is_free (m ! i)) (ltb i s.count) (at_each (free_from s.count) r5 i h) (le-ltb _ _ a));
        no_number = λ i h z. eqb-true _ _ (and_left (eqb (numbers ! i) 0) _ (vacant i h z));
        no_length = λ i h z. eqb-true _ _ (and_left (eqb (s.lengths ! i) 0) _ (and_right (eqb (numbers ! i) 0) _ (vacant i h z)));
        no_time = λ i h z. eqb-true _ _ (and_left (eqb (s.sent ! i) 0) _ (timeless i h z));
        no_resent = λ i h z. eqb-true _ _ (and_right (eqb (s.sent ! i) 0) (eqb (s.resent ! i) 0) (timeless i h z));
        not_sent = λ i h w. eqb-true _ _ (unless_at (eqb (s.sent ! i) 0) (not (is_waiting (m ! i))) (at_each (λ i. unsent) r7 i h) (rw (eq-eqb _ _ w)));
        few = leb-true _ _ (and_left (leb (count_of 2 m) 128) _ h8);
        past = λ i h. leb-true _ _ (at_each (λ i. sent_in_time s.clock) r9 i h);
        due = and_left (timer_fits s.timer s.clock) _ h10;
        window_some = leb-true _ _ (and_left (leb 1 s.window) _ h11);
        window_most = leb-true _ _ (and_left (leb s.window 128) _ h12);
        timing = and_left (timing_fits s.timing) _ h13;
        long = λ i h n. leb-true _ _ (and_left (leb 22 (s.lengths ! i)) _ (within i h n));
        short = λ i h n. leb-true _ _ (and_right (leb 22 (s.lengths ! i)) (leb (s.lengths ! i) (s.chunk + 1044)) (within i h n));
        clock_most = leb-true _ _ (and_left (leb s.clock 1000000000000000) _ h15);
        unresent = λ i h w. eqb-true _ _ (unless_at (eqb (s.resent ! i) 0) (not (is_waiting (m ! i))) (at_each (λ i. never_resent) r16 i h) (rw (eq-eqb _ _ w)));
        known = λ i h. leb-true _ _ (and_left (leb (m ! i) 2) _ (at_each (λ i. known_values) r17 i h));
        once_or_more = λ i h. leb-true _ _ (and_right (leb (m ! i) 2) (leb (s.resent ! i) 1) (at_each (λ i. known_values) r17 i h));
      }

  pub rules_of_lem : Ruled s → rules s ≡ true
  unfolding rules
  rules_of_lem r =
      let m = s.marks in
      let numbers = s.numbers in
      let at = place_at s in
      and_both (each_place s (λ i p. each_place s (apart i p))) _
      (of_each (λ i p. each_place s (apart i p))
      (λ i h. of_each (apart i (at i))
      (λ j k. or_of (eqb i j || (is_free (m ! i) || is_free (m ! j))) (not (eqb (numbers ! i) (numbers ! j)))
      (λ e.
      let o = eqb-false i j (or_false_left (eqb i j) _ e) in
      let z = or_false_right (eqb i j) (is_free (m ! i) || is_free (m ! j)) e in
      let a = eqb-false (m ! i) 0 (or_false_left (is_free (m ! i)) _ z) in
      let b = eqb-false (m ! j) 0 (or_false_right (is_free (m ! i)) (is_free (m ! j)) z) in
      rw (ne_eqb (numbers ! i) (numbers ! j) (r.distinct i j h k o a b))))))
      (and_both (each_place s (λ i. below s.next.0)) _
      (of_each (λ i. below s.next.0) (λ i h. or_of (is_free (m ! i)) _ (λ e. lt-ltb _ _ (r.low i h (eqb-false _ _ e)))))
      (and_both (each_place s (λ i p. each_place s (λ j. below_waiting p))) _
      (of_each (λ i p. each_place s (λ j. below_waiting p))
      (λ i h. of_each (λ j. below_waiting (at i))
      (λ j k. or_of (not (is_flying (m ! i) && is_waiting (m ! j))) _
      (λ e.
      let t = not-false (is_flying (m ! i) && is_waiting (m ! j)) e in
      lt-ltb _ _ (r.order i j h k (eqb-true _ _ (and_left (is_flying (m ! i)) _ t)) (eqb-true _ _ (and_right (is_flying (m ! i)) (is_waiting (m ! j)) t)))))))
      (and_both (each_place s (λ i. some_number)) _
      (of_each (λ i. some_number) (λ i h. or_of (is_free (m ! i)) _ (λ e. le-leb _ _ (r.some i h (eqb-false _ _ e)))))
      (and_both (leb 1 s.next.0) _ (le-leb _ _ r.next_some)
      (and_both (each_place s (free_from s.count)) _
      (of_each (free_from s.count) (λ i h. or_of (ltb i s.count) _ (λ e. eq-eqb _ _ (r.shut i h (ltb-false _ _ e)))))
      (and_both (each_place s (λ i. empty_where_free)) _
      (of_each (λ i. empty_where_free)
      (λ i h. or_of (not (is_free (m ! i))) _
      (λ e.
      let z = eqb-true (m ! i) 0 (not-false (is_free (m ! i)) e) in
      and_both (eqb (numbers ! i) 0) _ (eq-eqb _ _ (r.no_number i h z))
      (and_both (eqb (s.lengths ! i) 0) _ (eq-eqb _ _ (r.no_length i h z))
      (and_both (eqb (s.sent ! i) 0) (eqb (s.resent ! i) 0) (eq-eqb _ _ (r.no_time i h z)) (eq-eqb _ _ (r.no_resent i h z)))))))
      (and_both (each_place s (λ i. unsent)) _
      (of_each (λ i. unsent) (λ i h. or_of (not (is_waiting (m ! i))) _ (λ e. eq-eqb _ _ (r.not_sent i h (eqb-true (m ! i) 1 (not-false (is_waiting (m ! i)) e))))))
      (and_both (leb (count_of 2 m) 128) _ (le-leb _ _ r.few)
      (and_both (each_place s (λ i. sent_in_time s.clock)) _ (of_each (λ i. sent_in_time s.clock) (λ i h. le-leb _ _ (r.past i h)))
      (and_both (timer_fits s.timer s.clock) _ r.due
      (and_both (leb 1 s.window) _ (le-leb _ _ r.window_some)
      (and_both (leb s.window 128) _ (le-leb _ _ r.window_most)
      (and_both (timing_fits s.timing) _ r.timing
      (and_both (each_place s (λ i. length_within s.chunk)) _
      (of_each (λ i. length_within s.chunk)
      (λ i h. or_of (is_free (m ! i)) _ (λ e. and_both _ _ (le-leb _ _ (r.long i h (eqb-false _ _ e))) (le-leb _ _ (r.short i h (eqb-false _ _ e))))))
      (and_both (leb s.clock 1000000000000000) _ (le-leb _ _ r.clock_most)
      (and_both (each_place s (λ i. never_resent)) (each_place s (λ i. known_values))
      (of_each (λ i. never_resent) (λ i h. or_of (not (is_waiting (m ! i))) _ (λ e. eq-eqb _ _ (r.unresent i h (eqb-true (m ! i) 1 (not-false (is_waiting (m ! i)) e))))))
      (of_each (λ i. known_values) (λ i h. and_both (leb (m ! i) 2) (leb (s.resent ! i) 1) (le-leb _ _ (r.known i h)) (le-leb _ _ (r.once_or_more i h))))))))))))))))))))

pub record Counted (chunk count : ℕ) : Type 0 where
  pub chunk_some : 1 ≤ chunk
  pub chunk_most : chunk ≤ 1812
  pub count_some : 1 ≤ count
  pub count_most : count ≤ 192

pub counted : (chunk count : ℕ) → counts_fit chunk count ≡ true → Counted chunk count
unfolding counts_fit
counted chunk count h =
    let h1 = and_right (leb 1 chunk) _ h in
    let h2 = and_right (leb chunk 1812) _ h1 in
    record {
      chunk_some = leb-true _ _ (and_left (leb 1 chunk) _ h);
      chunk_most = leb-true _ _ (and_left (leb chunk 1812) _ h1);
      count_some = leb-true _ _ (and_left (leb 1 count) _ h2);
      count_most = leb-true _ _ (and_right (leb 1 count) (leb count 192) h2);
    }

pub record Sized (chunk count store_length : ℕ) : Type 0 where
  pub counts : Counted chunk count
  pub store : store_length ≡ count * (chunk + 1044)

pub sized : (chunk count store_length : ℕ) → sizes_fit chunk count store_length ≡ true → Sized chunk count store_length
unfolding sizes_fit
sized chunk count store_length h = record {
  counts = counted chunk count (and_left (counts_fit chunk count) _ h);
  store = eqb-true _ _ (and_right (counts_fit chunk count) (eqb store_length (count * (chunk + 1044))) h);
}

-- a clock that is not wrong
pub clock_fair : (last clock : ℕ) → clock_wrong last clock ≡ false → (last ≤ clock) × (clock ≤ 1000000000000000)
unfolding clock_wrong
clock_fair last clock e = (ltb-false _ _ (or_false_left (ltb clock last) (ltb 1000000000000000 clock) e), ltb-false _ _ (or_false_right (ltb clock last) (ltb 1000000000000000 clock) e))

-- a stored packet lies within the store
pub packet_in_lem : (s : Sender) → length s.marks ≡ 192 → Ruled s → (store_length place : ℕ) → sizes_fit s.chunk s.count store_length ≡ true → place < 192 → (s.marks ! place ≡ 0 → ⊥)
    → offset_of s.chunk place + (s.lengths ! place) ≤ store_length
packet_in_lem s table r store_length place f h n =
    let z = sized s.chunk s.count store_length f in
    let short = r.short place (omega arith) n in
    let open-place : place + 1 ≤ s.count =
    case (λ (q : place < s.count). omega arith) (λ (q : place < s.count → ⊥). absurd (n (r.shut place (omega arith) (omega arith)))) (dec_lt place s.count) in
    omega (arith, mul-le-mul_right (s.chunk + 1044) open-place, z.store)
