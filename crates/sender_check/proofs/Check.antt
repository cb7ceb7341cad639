-- The state rules as the code tests them: place by place beside one bound, and each number against those before it. Assumes nothing.
use Prim.Native.Nat.{ℕ, ◌+◌, ◌≤◌, ◌<◌, min}
use mathlib.Core.Path.{◌≡◌, refl, sym, ◌∙◌}
use mathlib.Core.Bool.{Bool, true, false, ◌&&◌, true≢false}
use native.Mathlib.Omega.{arith}
use native.Mathlib.Decide.{ℕ_discrete, dec_lt}
use borrow.Author.Tests.{le-leb, lt-leb, leb-true, leb-false, lt-ltb, le-ltb, ltb-true, ltb-false, eq-eqb, ne_eqb, eqb-true, eqb-false, not-true}
use lib.Dec.{leb, ltb, eqb}
use lib.ListN.{length, take, length-take}
use lib.Seq.{get_or-take}
use Rattle.std.specs.Prelude.{Option, Some, None}
use Rattle.std.specs.Option.{unwrap_or}
use Rattle.terms.specs.Lists.{all}
use Rattle.terms.proofs.Laws.{case, bool_iff, and_left, and_right, all_at, all_of, rung_passed, or_of}
use Rattle.timer.specs.Timer.{timing_fits}
use Rattle.sender_state.specs.Table.{◌!◌, differs, count_of}
use Rattle.sender_check.specs.Steps.{every, alone_at, place_holds, holds_at}
use Rattle.sender_check.specs.declared.Limits.{Limits}
use Rattle.sender_state.specs.Places.{places_of, place_at}
use Rattle.sender_state.specs.declared.Place.{Place}
use Rattle.sender_state.specs.Steps.{least_of, lowest_of}
use Rattle.sender_state.specs.Rules.{timer_fits, rules}
use Rattle.sender_state.specs.declared.Sender.{Sender}
use Rattle.sender_check.proofs.Every.{every_at, every_of}
use Rattle.sender_state.proofs.Folds.{least_at, least_there, lowest_is, lowest_not}
use Rattle.sender_state.proofs.Facts.{unless_at, Ruled, ruled, rules_of_lem}

-- what one place's test says
record Held (l : Limits) (i : ℕ) (p : Place) : Type 0 where
  no_number : p.mark ≡ 0 → p.number.0 ≡ 0
  no_size : p.mark ≡ 0 → p.size ≡ 0
  no_time : p.mark ≡ 0 → p.sent ≡ 0
  no_resent : p.mark ≡ 0 → p.resent ≡ 0
  inside : (p.mark ≡ 0 → ⊥) → i < l.count
  some : (p.mark ≡ 0 → ⊥) → 1 ≤ p.number.0
  long : (p.mark ≡ 0 → ⊥) → 22 ≤ p.size
  short : (p.mark ≡ 0 → ⊥) → p.size ≤ l.chunk + 1044
  once_or_more : p.resent ≤ 1
  not_sent : p.mark ≡ 1 → p.sent ≡ 0
  unresent : p.mark ≡ 1 → p.resent ≡ 0
  low : p.mark ≡ 1 → p.number.0 < l.next.0
  known : p.mark ≤ 2
  lower : p.mark ≡ 2 → p.number.0 < l.bound.0
  past : p.mark ≡ 2 → p.sent ≤ l.clock

module _ (l : Limits) (i : ℕ) (p : Place) where
  abbrev mark : ℕ
  mark = p.mark

  abbrev number : ℕ
  number = p.number.0

  abbrev size : ℕ
  size = p.size

  abbrev sent : ℕ
  sent = p.sent

  abbrev resent : ℕ
  resent = p.resent

  held : place_holds l i p ≡ true → Held l i p
  unfolding place_holds
  held t =
      case
      (λ (z : mark ≡ 0).
      let u : (eqb number 0 && (eqb size 0 && (eqb sent 0 && eqb resent 0))) ≡ true = rw (eq-eqb mark 0 z) at t in
      let v = and_right (eqb number 0) _ u in
      let w = and_right (eqb size 0) _ v in
      let none = eqb-true _ _ (and_right (eqb sent 0) (eqb resent 0) w) in
      record {
        no_number = λ _. eqb-true _ _ (and_left (eqb number 0) _ u);
        no_size = λ _. eqb-true _ _ (and_left (eqb size 0) _ v);
        no_time = λ _. eqb-true _ _ (and_left (eqb sent 0) _ w);
        no_resent = λ _. none;
        inside = λ n. absurd (n z);
        some = λ n. absurd (n z);
        long = λ n. absurd (n z);
        short = λ n. absurd (n z);
        once_or_more = omega (arith, none);
        not_sent = λ e. absurd (omega arith);
        unresent = λ e. none;
        low = λ e. absurd (omega arith);
        known = omega arith;
        lower = λ e. absurd (omega arith);
        past = λ e. absurd (omega arith);
      })
      (λ (n : mark ≡ 0 → ⊥).
      let never : false ≡ true → ⊥ = λ e. true≢false (sym e) in
      let t1 = rw (ne_eqb mark 0 n) at t in
      let p2 = rung_passed (leb l.count i) never t1 in
      let p3 = rung_passed (ltb number 1) never p2.1 in
      let p4 = rung_passed (ltb size 22) never p3.1 in
      let p5 = rung_passed (ltb (l.chunk + 1044) size) never p4.1 in
      let p6 = rung_passed (ltb 1 resent) never p5.1 in
      case
      (λ (w : mark ≡ 1).
      let u : (eqb sent 0 && (eqb resent 0 && ltb number l.next.0)) ≡ true = rw (eq-eqb mark 1 w) at p6.1 in
      let v = and_right (eqb sent 0) _ u in
      record {
        no_number = λ z. absurd (n z);
        no_size = λ z. absurd (n z);
        no_time = λ z. absurd (n z);
        no_resent = λ z. absurd (n z);
        inside = λ _. leb-false _ _ p2.0;
        some = λ _. ltb-false _ _ p3.0;
        long = λ _. ltb-false _ _ p4.0;
        short = λ _. ltb-false _ _ p5.0;
        once_or_more = ltb-false _ _ p6.0;
        not_sent = λ _. eqb-true _ _ (and_left (eqb sent 0) _ u);
        unresent = λ _. eqb-true _ _ (and_left (eqb resent 0) _ v);
        low = λ _. ltb-true _ _ (and_right (eqb resent 0) (ltb number l.next.0) v);
        known = omega arith;
        lower = λ e. absurd (omega arith);
        past = λ e. absurd (omega arith);
      })
      (λ (o : mark ≡ 1 → ⊥).
      let t7 = rw (ne_eqb mark 1 o) at p6.1 in
      let p8 = rung_passed (ltb 2 mark) never t7 in
      record {
        no_number = λ z. absurd (n z);
        no_size = λ z. absurd (n z);
        no_time = λ z. absurd (n z);
        no_resent = λ z. absurd (n z);
        inside = λ _. leb-false _ _ p2.0;
        some = λ _. ltb-false _ _ p3.0;
        long = λ _. ltb-false _ _ p4.0;
        short = λ _. ltb-false _ _ p5.0;
        once_or_more = ltb-false _ _ p6.0;
        not_sent = λ e. absurd (o e);
        unresent = λ e. absurd (o e);
        low = λ e. absurd (o e);
        known = ltb-false _ _ p8.0;
        lower = λ _. ltb-true _ _ (and_left (ltb number l.bound.0) _ p8.1);
        past = λ _. leb-true _ _ (and_right (ltb number l.bound.0) (leb sent l.clock) p8.1);
      })
      (ℕ_discrete mark 1))
      (ℕ_discrete mark 0)

  holds : Held l i p → place_holds l i p ≡ true
  unfolding place_holds
  holds h =
      case
      (λ (z : mark ≡ 0). simp (eq-eqb mark 0 z, eq-eqb number 0 (h.no_number z), eq-eqb size 0 (h.no_size z), eq-eqb sent 0 (h.no_time z), eq-eqb resent 0 (h.no_resent z)))
      (λ (n : mark ≡ 0 → ⊥).
      let t2 = lt-leb l.count i (h.inside n) in
      let t3 = le-ltb number 1 (h.some n) in
      let t4 = le-ltb size 22 (h.long n) in
      let t5 = le-ltb (l.chunk + 1044) size (h.short n) in
      let t6 = le-ltb 1 resent h.once_or_more in
      case
      (λ (w : mark ≡ 1). simp (ne_eqb mark 0 n, t2, t3, t4, t5, t6, eq-eqb mark 1 w, eq-eqb sent 0 (h.not_sent w), eq-eqb resent 0 (h.unresent w), lt-ltb _ _ (h.low w)))
      (λ (o : mark ≡ 1 → ⊥).
      let f : mark ≡ 2 = omega (arith, h.known, n, o) in
      simp (ne_eqb mark 0 n, t2, t3, t4, t5, t6, ne_eqb mark 1 o, le-ltb 2 mark h.known, lt-ltb _ _ (h.lower f), le-leb _ _ (h.past f)))
      (ℕ_discrete mark 1))
      (ℕ_discrete mark 0)

module _ (s : Sender) (table : length s.marks ≡ 192) (row : length s.numbers ≡ 192) where
  -- the rules leave each number alone
  pub alone_of : Ruled s → every (length s.numbers) (alone_at s.numbers) ≡ true
  unfolding alone_at
  alone_of r =
      every_of (alone_at s.numbers) (length s.numbers)
      (λ i h.
      or_of (eqb (s.numbers ! i) 0) (all (differs (s.numbers ! i)) (take i s.numbers))
      (λ e.
      let some = eqb-false (s.numbers ! i) 0 e in
      all_of (differs (s.numbers ! i)) (take i s.numbers)
      (λ k b.
      let b' : k < min i (length s.numbers) = simp length-take at b in
      let below : k < i = omega arith in
      let g = get_or-take i s.numbers k 0 below in
      rw g
      (rw (ne_eqb (s.numbers ! k) (s.numbers ! i)
      (λ same.
      r.distinct k i (omega arith) (omega arith) (λ q. omega arith)
      (λ z. some (sym same ∙ r.no_number k (omega arith) z))
      (λ z. some (r.no_number i (omega arith) z))
      same))))))

  -- and numbers that are alone are distinct
  alone_apart : every (length s.numbers) (alone_at s.numbers) ≡ true → (i j : ℕ) → i < j → j < 192 → (s.numbers ! j ≡ 0 → ⊥) → s.numbers ! i ≡ s.numbers ! j → ⊥
  unfolding alone_at
  alone_apart t i j h k some same =
      let a = every_at (alone_at s.numbers) (length s.numbers) t j (omega arith) in
      let b = unless_at (all (differs (s.numbers ! j)) (take j s.numbers)) (eqb (s.numbers ! j) 0) a (ne_eqb _ _ some) in
      let m : i < length (take j s.numbers) = simp length-take (omega arith) in
      let d = all_at (differs (s.numbers ! j)) (take j s.numbers) b i m in
      eqb-false _ _ (not-true _ d) (get_or-take j s.numbers i 0 h ∙ same)

  -- the code's bound is the lowest waiting number, or next where that is lower or nothing waits
  pub bound_is : s.next.0 ≤ 4294967295 → min (unwrap_or (lowest_of s.numbers s.marks 1 0) s.next.0) s.next.0 ≡ min (least_of s.numbers s.marks 1 0 192) s.next.0
  bound_is width = go (lowest_of s.numbers s.marks 1 0) refl where
    go : (o : Option ℕ) → lowest_of s.numbers s.marks 1 0 ≡ o → min (unwrap_or o s.next.0) s.next.0 ≡ min (least_of s.numbers s.marks 1 0 192) s.next.0
    go None e = omega (arith, lowest_not s.numbers s.marks 1 0 e)
    go (Some low) e = omega (arith, (lowest_is s.numbers s.marks 1 0 low e).0)

  abbrev bound : ℕ
  bound = min (least_of s.numbers s.marks 1 0 192) s.next.0

  abbrev limits : Limits
  limits = record { chunk = s.chunk; count = s.count; next = s.next; bound = record { 0 = bound }; clock = s.clock }

  abbrev test : ℕ → Bool
  test = holds_at limits (places_of s)

  pub tests_of : s.next.0 ≤ 4294967295 → Ruled s → every 192 test ≡ true
  tests_of width r =
      every_of test 192
      (λ i h.
      holds limits i (place_at s i)
      (record {
        no_number = r.no_number i (omega arith);
        no_size = r.no_length i (omega arith);
        no_time = r.no_time i (omega arith);
        no_resent = r.no_resent i (omega arith);
        inside = λ n. case (λ (q : i < s.count). q) (λ (q : i < s.count → ⊥). absurd (n (r.shut i (omega arith) (omega arith)))) (dec_lt i s.count);
        some = r.some i (omega arith);
        long = r.long i (omega arith);
        short = r.short i (omega arith);
        once_or_more = r.once_or_more i (omega arith);
        not_sent = r.not_sent i (omega arith);
        unresent = r.unresent i (omega arith);
        low = λ w. r.low i (omega arith) (λ z. omega arith);
        known = r.known i (omega arith);
        lower = λ f.
            let below = r.low i (omega arith) (λ z. omega arith) in
            case
            (λ (q : least_of s.numbers s.marks 1 0 192 < 4294967295).
            let w = least_there s.numbers s.marks 1 0 192 q in
            omega (arith, w.is, r.order i w.place (omega arith) (omega (arith, w.inside)) f w.marked))
            (λ (q : least_of s.numbers s.marks 1 0 192 < 4294967295 → ⊥). omega arith)
            (dec_lt (least_of s.numbers s.marks 1 0 192) 4294967295);
        past = λ f. r.past i (omega arith);
      }))

  module _ (alone : every (length s.numbers) (alone_at s.numbers) ≡ true) (few : count_of 2 s.marks ≤ 128) (next_some : 1 ≤ s.next.0)
      (due : timer_fits s.timer s.clock ≡ true) (window_some : 1 ≤ s.window) (window_most : s.window ≤ 128)
      (timing : timing_fits s.timing ≡ true) (clock_most : s.clock ≤ 1000000000000000) where
    ruled_by : every 192 test ≡ true → Ruled s
    ruled_by t =
        let f : (i : ℕ) → i < length s.marks → Held limits i (place_at s i) =
        λ i h. held limits i (place_at s i) (every_at test 192 t i (omega arith)) in
        let least : (j : ℕ) → j < length s.marks → s.marks ! j ≡ 1 → least_of s.numbers s.marks 1 0 192 ≤ s.numbers ! j =
        λ j k w. least_at s.numbers s.marks 1 0 192 j (omega arith) w (omega arith) in
        record {
          distinct = λ i j h k o a b e.
              case
              (λ (q : i < j). alone_apart alone i j q (omega arith) (λ z. omega (arith, (f j k).some b)) e)
              (λ (q : i < j → ⊥). alone_apart alone j i (omega (arith, o)) (omega arith) (λ z. omega (arith, (f i h).some a)) (sym e))
              (dec_lt i j);
          low = λ i h n.
              case (f i h).low
              (λ (o : s.marks ! i ≡ 1 → ⊥). omega (arith, (f i h).lower (omega (arith, (f i h).known, n, o))))
              (ℕ_discrete (s.marks ! i) 1);
          order = λ i j h k a b. omega (arith, (f i h).lower a, least j k b);
          some = λ i h. (f i h).some;
          next_some = next_some;
          shut = λ i h a. case (λ (z : s.marks ! i ≡ 0). z) (λ (n : s.marks ! i ≡ 0 → ⊥). absurd (omega (arith, (f i h).inside n))) (ℕ_discrete (s.marks ! i) 0);
          no_number = λ i h. (f i h).no_number;
          no_length = λ i h. (f i h).no_size;
          no_time = λ i h. (f i h).no_time;
          no_resent = λ i h. (f i h).no_resent;
          not_sent = λ i h. (f i h).not_sent;
          few = few;
          past = λ i h.
              case
              (λ (z : s.marks ! i ≡ 0). omega (arith, (f i h).no_time z))
              (λ (n : s.marks ! i ≡ 0 → ⊥).
              case
              (λ (w : s.marks ! i ≡ 1). omega (arith, (f i h).not_sent w))
              (λ (o : s.marks ! i ≡ 1 → ⊥). (f i h).past (omega (arith, (f i h).known, n, o)))
              (ℕ_discrete (s.marks ! i) 1))
              (ℕ_discrete (s.marks ! i) 0);
          due = due;
          window_some = window_some;
          window_most = window_most;
          timing = timing;
          long = λ i h. (f i h).long;
          short = λ i h. (f i h).short;
          clock_most = clock_most;
          unresent = λ i h. (f i h).unresent;
          known = λ i h. (f i h).known;
          once_or_more = λ i h. (f i h).once_or_more;
        }

    -- what is left once all else has passed
    pub tests_left : s.next.0 ≤ 4294967295 → every 192 test ≡ rules s
    tests_left width = bool_iff (every 192 test) (rules s) (λ t. rules_of_lem s (ruled_by t)) (λ t. tests_of width (ruled s t))
