-- A packet of a place that waits moves in flight: the table's numbers stay where they are, so one place's mark and time are all that changes.
-- Assumes nothing.
use Prim.Native.Nat.{ℕ, ◌+◌, ◌≤◌, ◌<◌}
use mathlib.Core.Path.{◌≡◌, refl, sym, ◌∙◌, ap}
use mathlib.Core.Bool.{true}
use mathlib.Core.List.{List}
use native.Mathlib.Decide.{ℕ_discrete}
use native.Mathlib.Omega.{arith}
use borrow.Author.Tests.{le-leb, eq-eqb, ne_eqb, leb-true}
use lib.ListN.{length, set, length-set}
use lib.Seq.{get_or-set_same, get_or-set_other}
use Rattle.std.specs.Prelude.{Option, Some, None}
use Rattle.terms.proofs.Laws.{case}
use Rattle.sender_state.specs.Table.{◌!◌, count_of}
use Rattle.sender_state.specs.Rules.{timer_fits}
use Rattle.sender_state.specs.declared.Sender.{Sender}
use Rattle.sender_state.proofs.Facts.{Ruled, rules_of_lem}
use Rattle.sender_send.specs.Send.{armed, moved}
use Rattle.sender_meaning.specs.Meaning.{Standing, unmade, waits, flies, gone, standing, Sound}
use Rattle.sender_meaning.specs.Steps.{sent_as}
use Rattle.sender_meaning.proofs.Counts.{count_set}
use Rattle.sender_meaning.proofs.Stands.{waits_at, flies_at, at_same, unmade_from, facts, one_place, where_is, nowhere_gone, stands_at}

-- a timer that was in time still is, and so is one that is armed now
pub later_fits : (timer : Option ℕ) (last clock : ℕ) → timer_fits timer last ≡ true → last ≤ clock → timer_fits timer clock ≡ true
unfolding timer_fits
later_fits None last clock f a = refl
later_fits (Some due) last clock f a = let d = leb-true due (last + 60000) f in le-leb due (clock + 60000) (omega arith)

pub armed_fits : (timer : Option ℕ) (last clock rto : ℕ) → timer_fits timer last ≡ true → last ≤ clock → rto ≤ 60000 → timer_fits (armed timer (clock + rto)) clock ≡ true
unfolding timer_fits armed
armed_fits None last clock rto f a b = le-leb (clock + rto) (clock + 60000) (omega arith)
armed_fits (Some due) last clock rto f a b = later_fits (Some due) last clock f a

-- a packet of a place that waits moves in flight
module _ (s : Sender) (store : List ℕ) (sound : Sound s store) (place : ℕ) (inside : place < 192) (Waits-there : s.marks ! place ≡ 1)
    (lowest : (j : ℕ) → j < 192 → s.marks ! j ≡ 1 → s.numbers ! place ≤ s.numbers ! j) (clock : ℕ) (later : s.clock ≤ clock) where
  mark_here : set s.marks place 2 ! place ≡ 2
  mark_here = get_or-set_same s.marks place 2 0 (omega (arith, sound.marks_long))

  mark_there : (i : ℕ) → (i ≡ place → ⊥) → set s.marks place 2 ! i ≡ s.marks ! i
  mark_there i o = get_or-set_other s.marks place i 2 0 o

  sent_here : set s.sent place clock ! place ≡ clock
  sent_here = get_or-set_same s.sent place clock 0 (omega (arith, sound.sent_long))

  sent_there : (i : ℕ) → (i ≡ place → ⊥) → set s.sent place clock ! i ≡ s.sent ! i
  sent_there i o = get_or-set_other s.sent place i clock 0 o

  -- a place is free where it was
  was_free : (i : ℕ) → set s.marks place 2 ! i ≡ 0 → s.marks ! i ≡ 0
  was_free i z =
      case
      (λ (e : i ≡ place). absurd (omega (arith, mark_here, rw e at z)))
      (λ (o : i ≡ place → ⊥). sym (mark_there i o) ∙ z)
      (ℕ_discrete i place)

  was_full : (i : ℕ) → (set s.marks place 2 ! i ≡ 0 → ⊥) → s.marks ! i ≡ 0 → ⊥
  was_full i n z =
      case
      (λ (e : i ≡ place). omega (arith, Waits-there, rw e at z))
      (λ (o : i ≡ place → ⊥). n (mark_there i o ∙ z))
      (ℕ_discrete i place)

  -- one that waits did so before, and is another
  still_waits : (i : ℕ) → set s.marks place 2 ! i ≡ 1 → (i ≡ place → ⊥) × (s.marks ! i ≡ 1)
  still_waits i w =
      let o : i ≡ place → ⊥ = λ e. omega (arith, mark_here, rw e at w) in
      (o, sym (mark_there i o) ∙ w)

  pub moved_keeps : count_of 2 s.marks < s.window → clock ≤ 1000000000000000 → (timer : Option ℕ) → timer_fits timer clock ≡ true → Ruled (moved s place clock timer)
  moved_keeps room most timer due =
      let r = facts s store sound in
      let l : length (set s.marks place 2) ≡ length s.marks = length-set s.marks place 2 in
      let long = sound.marks_long in
      record {
        distinct = λ i j h k o a b. r.distinct i j (omega arith) (omega arith) o (was_full i a) (was_full j b);
        low = λ i h n. r.low i (omega arith) (was_full i n);
        order = λ i j h k f w.
            let v = still_waits j w in
            case
            (λ (e : i ≡ place).
            let below = lowest j (omega arith) v.1 in
            let apart : s.numbers ! place ≡ s.numbers ! j → ⊥ = r.distinct place j (omega arith) (omega arith) (λ q. v.0 (sym q)) (λ z. omega arith) (λ z. omega (arith, v.1)) in
            rw e (omega (arith, apart)))
            (λ (o : i ≡ place → ⊥). r.order i j (omega arith) (omega arith) (sym (mark_there i o) ∙ f) v.1)
            (ℕ_discrete i place);
        some = λ i h n. r.some i (omega arith) (was_full i n);
        next_some = r.next_some;
        shut = λ i h a.
            case
            (λ (e : i ≡ place). absurd (omega (arith, r.shut place (omega arith) (omega arith))))
            (λ (o : i ≡ place → ⊥). mark_there i o ∙ r.shut i (omega arith) a)
            (ℕ_discrete i place);
        no_number = λ i h z. r.no_number i (omega arith) (was_free i z);
        no_length = λ i h z. r.no_length i (omega arith) (was_free i z);
        no_time = λ i h z.
            case
            (λ (e : i ≡ place). absurd (omega (arith, Waits-there, rw e at (was_free i z))))
            (λ (o : i ≡ place → ⊥). sent_there i o ∙ r.no_time i (omega arith) (was_free i z))
            (ℕ_discrete i place);
        no_resent = λ i h z. r.no_resent i (omega arith) (was_free i z);
        not_sent = λ i h w. let v = still_waits i w in sent_there i v.0 ∙ r.not_sent i (omega arith) v.1;
        unresent = λ i h w. r.unresent i (omega arith) (still_waits i w).1;
        once_or_more = λ i h. r.once_or_more i (omega arith);
        few = omega (arith, count_set 2 s.marks place (omega arith) (λ e. omega arith), r.window_most);
        past = λ i h.
            case
            (λ (e : i ≡ place). rw (e, sent_here) (omega arith))
            (λ (o : i ≡ place → ⊥). rw (sent_there i o) (omega (arith, r.past i (omega arith))))
            (ℕ_discrete i place);
        due = due;
        window_some = r.window_some;
        window_most = r.window_most;
        timing = r.timing;
        long = λ i h n. r.long i (omega arith) (was_full i n);
        short = λ i h n. r.short i (omega arith) (was_full i n);
        clock_most = most;
        known = λ i h.
            case
            (λ (e : i ≡ place). rw (e, mark_here) (omega arith))
            (λ (o : i ≡ place → ⊥). rw (mark_there i o) (r.known i (omega arith)))
            (ℕ_discrete i place);
      }

  pub moved_sound : count_of 2 s.marks < s.window → clock ≤ 1000000000000000 → (timer : Option ℕ) → timer_fits timer clock ≡ true → Sound (moved s place clock timer) store
  moved_sound room most timer due = record {
    numbers_long = sound.numbers_long;
    lengths_long = sound.lengths_long;
    sent_long = simp length-set sound.sent_long;
    resent_long = sound.resent_long;
    marks_long = simp length-set sound.marks_long;
    keeps = rules_of_lem (moved s place clock timer) (moved_keeps room most timer due);
    fits = sound.fits;
    width = sound.width;
  }

  other_stays : (n : ℕ) → (n ≡ s.numbers ! place → ⊥) → (x : Standing) → x ≡ sent_as (s.numbers ! place) clock n x
  other_stays n o unmade = refl
  other_stays n o (waits packet) = rw (ne_eqb n (s.numbers ! place) o)
  other_stays n o (flies packet sent) = refl
  other_stays n o gone = refl

  -- its number flies, and every other stands as it stood
  pub moved_means : (timer : Option ℕ) → Sound (moved s place clock timer) store → (n : ℕ)
      → standing (moved s place clock timer) store n ≡ sent_as (s.numbers ! place) clock n (standing s store n)
  moved_means timer after n =
      let t = moved s place clock timer in
      where_is s store sound n
      (λ a. unmade_from t store n a ∙ sym (ap (sent_as (s.numbers ! place) clock n) (unmade_from s store n a)))
      (λ a f.
      nowhere_gone t store after n a (λ i h o e. f i h (was_full i o) e)
      ∙ sym (ap (sent_as (s.numbers ! place) clock n) (nowhere_gone s store sound n a f)))
      (λ i h o e.
      case
      (λ (q : i ≡ place).
      let full : t.marks ! place ≡ 0 → ⊥ = λ z. omega (arith, mark_here) in
      let is : n ≡ s.numbers ! place = sym e ∙ ap (λ (k : ℕ). s.numbers ! k) q in
      rw is
      (stands_at t store after place inside full ∙ flies_at t store place mark_here
      ∙ rw (sent_here, stands_at s store sound place inside (λ z. omega arith) ∙ waits_at s store place Waits-there, eq-eqb (s.numbers ! place) (s.numbers ! place) refl)))
      (λ (q : i ≡ place → ⊥).
      let full : t.marks ! i ≡ 0 → ⊥ = λ z. o (sym (mark_there i q) ∙ z) in
      let apart : n ≡ s.numbers ! place → ⊥ = λ z. q (one_place s store sound i place h inside o (λ y. omega arith) (e ∙ z)) in
      let same = stands_at t store after i h full ∙ at_same s t store i refl refl (sent_there i q) (mark_there i q) ∙ sym (stands_at s store sound i h o) in
      ap (standing t store) (sym e) ∙ same ∙ ap (standing s store) e ∙ other_stays n apart (standing s store n))
      (ℕ_discrete i place))
