-- Resend in the meaning's words: with a new path the expired numbers fly since the clock, with the packets that they had; every other number,
-- and without a path every number, stands as it stood; and the state stays sound. Assumes nothing.
use Prim.Native.Nat.{ℕ, ◌+◌, ◌≤◌, ◌<◌}
use mathlib.Core.Path.{◌≡◌, refl, sym, ◌∙◌, ap}
use mathlib.Core.Bool.{Bool, true, false, ◌&&◌, ◌||◌, not, true≢false}
use mathlib.Core.List.{List, [], ◌∷◌}
use native.Mathlib.Omega.{arith}
use borrow.Author.Tests.{le-leb}
use Rattle.std.specs.Prelude.{Option, Some, None}
use Rattle.terms.specs.Ladder.{◌when◌else◌}
use Rattle.terms.proofs.Laws.{rung, past}
use Rattle.terms.specs.Answers.{refusal, values}
use Rattle.receiver_calls.proofs.Laws.{by_said}
use Rattle.timer.specs.Timer.{rto_of, timing_fits}
use Rattle.timer.specs.Window.{fallen_of}
use Rattle.timer.proofs.Laws.{rto_most, fallen_least, fallen_most}
use Rattle.sender_state.specs.Table.{◌!◌, replaced}
use Rattle.sender_state.specs.Rules.{timer_fits, rules, counts_fit, clock_wrong}
use Rattle.sender_state.specs.Answers.{Outcome}
use Rattle.sender_state.specs.declared.Sender.{Sender}
use Rattle.sender_state.specs.Numbers.{in_flight}
use Rattle.sender_resend.specs.Resend.{is_due, resend_refusal, expired_of, is_empty, is_in, timed_at, resent_by, resend_leaves, resend_count, resend_of}
use Rattle.sender_state.proofs.Replaced.{replaced_length, replaced_at}
use Rattle.sender_state.proofs.Facts.{clock_fair}
use Rattle.sender_meaning.specs.Meaning.{standing, Sound}
use Rattle.sender_meaning.specs.Steps.{is_fair, goes_again, resent_as}
use Rattle.sender_meaning.specs.Changes.{GoesAgain}
use Rattle.sender_meaning.proofs.Counts.{by_bool, fair_rung, none_in}
use Rattle.sender_meaning.proofs.Stands.{facts, counts_fit_lem}
use Rattle.sender_meaning.proofs.Again.{none_again, expired_flies, idle_none, flies_there, retimed_sound, resent_means}

module _ (s : Sender) (clock : ℕ) (path : Bool) where
  -- what it leaves, once it is known whether something keeps it from being done
  refused_is : (n : ℕ) → resend_refusal s clock ≡ refusal n → resend_of s clock path ≡ record { says = refusal n; state = s; lent = [] }
  unfolding resend_of
  refused_is n e = simp e

  done_is : (given : List ℕ) → resend_refusal s clock ≡ values given
      → resend_of s clock path ≡ record { says = values (resend_count s clock path ∷ []); state = resend_leaves s clock path; lent = [] }
  unfolding resend_of
  done_is given e = simp e

  judged : {C : Type 0} → ((n : ℕ) → resend_refusal s clock ≡ refusal n → (resend_of s clock path).says ≡ refusal n → C)
      → ((given : List ℕ) → resend_refusal s clock ≡ values given → (resend_of s clock path).says ≡ values (resend_count s clock path ∷ []) → C) → C
  judged f g =
      by_said (resend_refusal s clock)
      (λ n e. f n e (ap (λ (o : Outcome). o.says) (refused_is n e)))
      (λ given e. g given e (ap (λ (o : Outcome). o.says) (done_is given e)))

  -- a refusal changes nothing
  pub resend_nothing : (n : ℕ) → (resend_of s clock path).says ≡ refusal n → (resend_of s clock path).state ≡ s
  resend_nothing n e =
      judged
      (λ m q _. ap (λ (o : Outcome). o.state) (refused_is m q))
      (λ given q p. let z : ◌≡◌ {A = ℕ} 0 1 = cc in absurd (omega arith))

  module _ (store : List ℕ) (sound : Sound s store) where
    -- what is true of a state that it may leave
    record Left (after : Sender) : Type 0 where
      stays_sound : Sound after store
      means : (n : ℕ) → standing after store n ≡ resent_as (goes_again s clock path) clock n (standing s store n)
      next_same : after.next ≡ s.next
      chunk_same : after.chunk ≡ s.chunk
      count_same : after.count ≡ s.count
      clock_noted : after.clock ≡ clock

    module _ (later : s.clock ≤ clock) (most : clock ≤ 1000000000000000) where
      -- another timer, and no number goes again
      left_timed : (timer : Option ℕ) → timer_fits timer clock ≡ true → ((n : ℕ) → goes_again s clock path n ≡ false) → Left (timed_at s timer clock)
      unfolding standing
      left_timed timer due none =
          let r = facts s store sound in
          record {
            stays_sound = retimed_sound s store sound s.window s.timing timer clock s.sent s.resent sound.sent_long sound.resent_long (λ i h o. refl)
                (λ i h. r.once_or_more i (omega (arith, sound.marks_long))) (λ i h o. refl)
                (λ i h. omega (arith, r.past i (omega (arith, sound.marks_long)))) most due r.timing r.window_some r.window_most;
            means = λ n. none_again (goes_again s clock path) none clock n (standing s store n);
            next_same = refl;
            chunk_same = refl;
            count_same = refl;
            clock_noted = refl;
          }

      -- the expired go again
      left_again : path ≡ true → Left (resent_by s clock (λ i. is_in (expired_of s clock) (s.numbers ! i)))
      unfolding timer_fits timing_fits
      left_again there =
          let r = facts s store sound in
          let again : ℕ → Bool = λ i. is_in (expired_of s clock) (s.numbers ! i) in
          let at : (i : ℕ) → i < 192 → replaced clock again 0 s.sent ! i ≡ (clock when again i else (s.sent ! i)) =
          λ i h. replaced_at clock again s.sent i (omega (arith, sound.sent_long)) in
          let mark : (i : ℕ) → i < 192 → replaced 1 again 0 s.resent ! i ≡ (1 when again i else (s.resent ! i)) =
          λ i h. replaced_at 1 again s.resent i (omega (arith, sound.resent_long)) in
          let spared : (i : ℕ) → i < 192 → (s.marks ! i ≡ 2 → ⊥) → again i ≡ false =
          λ i h o. by_bool (again i) (λ t. absurd (o (flies_there s store sound i h (expired_flies s store clock (s.numbers ! i) t)))) (λ f. f) in
          record {
            stays_sound = retimed_sound s store sound (fallen_of s.window) None (Some (clock + 9000)) clock (replaced clock again 0 s.sent) (replaced 1 again 0 s.resent)
                (replaced_length clock again 0 s.sent ∙ sound.sent_long) (replaced_length 1 again 0 s.resent ∙ sound.resent_long)
                (λ i h o. mark i h ∙ rw (spared i h o))
                (λ i h. rw (mark i h) (by_bool (again i) (λ t. rw t (omega arith)) (λ f. rw f (r.once_or_more i (omega (arith, sound.marks_long))))))
                (λ i h o. at i h ∙ rw (spared i h o))
                (λ i h. rw (at i h) (by_bool (again i) (λ t. rw t (omega arith)) (λ f. rw f (omega (arith, r.past i (omega (arith, sound.marks_long)))))))
                most (le-leb (clock + 9000) (clock + 60000) (omega arith)) refl (fallen_least s.window r.window_some) (fallen_most s.window r.window_most);
            means = λ n. rw there (resent_means s store sound (is_in (expired_of s clock)) (fallen_of s.window) None (Some (clock + 9000)) clock n);
            next_same = refl;
            chunk_same = refl;
            count_same = refl;
            clock_noted = refl;
          }

      leaves_left : Left (resend_leaves s clock path)
      unfolding timer_fits
      leaves_left =
          rung Left (is_empty (in_flight s))
          (λ t. left_timed None refl (idle_none s clock path t))
          (λ _.
          rung Left (is_empty (expired_of s clock) || not path)
          (λ t.
          left_timed (Some (clock + rto_of s.timing)) (le-leb (clock + rto_of s.timing) (clock + 60000) (omega (arith, rto_most s.timing)))
          (λ n. young (is_empty (expired_of s clock)) path (is_in (expired_of s clock) n) t (λ e. none_in (expired_of s clock) e n)))
          (λ f. left_again (has_path (is_empty (expired_of s clock)) path f))) where
            young : (none path expired : Bool) → (none || not path) ≡ true → (none ≡ true → expired ≡ false) → (path && expired) ≡ false
            young none false expired t f = refl
            young true true expired t f = f refl
            young false true expired t f = absurd (true≢false (sym t))

            has_path : (none path : Bool) → (none || not path) ≡ false → path ≡ true
            has_path none true f = refl
            has_path true false f = absurd (true≢false f)
            has_path false false f = sym f

    -- what holds where it is done
    passed : (blank : List ℕ) → resend_refusal s clock ≡ values blank → (s.clock ≤ clock) × (clock ≤ 1000000000000000)
    unfolding resend_refusal
    passed blank pass =
        let p11 = past 11 (not (rules s)) _ blank pass in
        let p10 = past 10 (not (counts_fit s.chunk s.count)) _ blank p11.1 in
        let p24 = past 24 (clock_wrong s.clock clock) _ blank p10.1 in
        clock_fair s.clock clock p24.0

    left : (blank : List ℕ) → resend_refusal s clock ≡ values blank → Left (resend_of s clock path).state
    left blank q = rw (ap (λ (o : Outcome). o.state) (done_is blank q)) (leaves_left (passed blank q).0 (passed blank q).1)

    pub resend_changes : (given : List ℕ) → (resend_of s clock path).says ≡ values given → GoesAgain s clock path store given
    resend_changes given done =
        judged
        (λ m q p. let z : ◌≡◌ {A = ℕ} 0 1 = cc in absurd (omega arith))
        (λ blank q p.
        let l = left blank q in
        record {
          gives = cc;
          now_is = l.means;
          next_is = l.next_same;
          chunk_is = l.chunk_same;
          count_is = l.count_same;
          clock_is = l.clock_noted;
          later = (passed blank q).0;
        })

    -- resend keeps a sound state and store sound, whatever it is given
    pub resend_sound : Sound (resend_of s clock path).state store
    resend_sound =
        judged
        (λ m q p. rw (ap (λ (o : Outcome). o.state) (refused_is m q)) sound)
        (λ blank q p. (left blank q).stays_sound)

    -- its answer in a sound state
    pub resend_answer : (resend_of s clock path).says
        ≡ (refusal 24 when clock_wrong s.clock clock else
        refusal 25 when not (is_due s.timer clock) else
        values (resend_count s clock path ∷ []))
    unfolding resend_of resend_refusal
    resend_answer =
        rw (sound.keeps, counts_fit_lem s store sound)
        (by_bool (clock_wrong s.clock clock) (λ t. rw t) (λ f. rw f (by_bool (is_due s.timer clock) (λ t. rw t) (λ g. rw g))))

    -- none blames the rules or the sizes
    pub resend_fair : is_fair (resend_of s clock path).says ≡ true
    resend_fair =
        rw resend_answer
        (fair_rung 24 (clock_wrong s.clock clock) _ refl (fair_rung 25 (not (is_due s.timer clock)) _ refl refl))
