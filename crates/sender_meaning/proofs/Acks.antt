-- Acks in the meaning's words: what flies, is at most ack-through and is not NACKed is gone, every other number stands as it stood, the answer
-- counts those that are gone by it, and the state stays sound. Assumes nothing.
use Prim.Native.Nat.{ℕ, ◌≤◌}
use mathlib.Core.Path.{◌≡◌, refl, ◌∙◌, ap}
use mathlib.Core.Bool.{Bool, true, false, ◌&&◌, not}
use mathlib.Core.List.{List, [], ◌∷◌}
use native.Mathlib.Omega.{arith}
use borrow.Author.Tests.{eqb-true, ltb-false}
use lib.Dec.{ltb}
use lib.ListN.{length}
use Rattle.terms.specs.Ladder.{◌when◌else◌}
use Rattle.terms.specs.Answers.{refusal, values}
use Rattle.terms.proofs.Laws.{past}
use Rattle.receiver_calls.proofs.Laws.{by_said}
use Rattle.receiver_ack.specs.Missing.{ascending}
use Rattle.sender_state.specs.Table.{is_flying, place_of}
use Rattle.sender_state.specs.Rules.{rules, counts_fit, clock_wrong}
use Rattle.sender_state.specs.Answers.{Outcome}
use Rattle.sender_state.specs.declared.Sender.{Sender}
use Rattle.sender_acks.specs.Acks.{acked_at, acked_of, acks_refusal, measured_by, timed_by, grown_by, acks_leave, acks_of}
use Rattle.sender_resend.specs.Resend.{is_in}
use Rattle.sender_state.proofs.Facts.{clock_fair}
use Rattle.sender_meaning.specs.Meaning.{mark_of, standing, does_fly, Sound}
use Rattle.sender_meaning.specs.Steps.{is_fair, is_named, acked_as}
use Rattle.sender_meaning.specs.Changes.{LeavesFlight}
use Rattle.sender_meaning.proofs.Counts.{by_bool, fair_rung, run_has, run_ascending}
use Rattle.sender_meaning.proofs.Stands.{facts, marked_is, flies_told, counts_fit_lem}
use Rattle.sender_meaning.proofs.Moves.{later_fits}
use Rattle.sender_meaning.proofs.Frees.{measured_fits, timed_fits, grown_fits, freed_sound, freed_means}

-- acknowledged are the numbers that fly, are at most ack-through and not NACKed
pub acked_is : (s : Sender) (store : List ℕ) → Sound s store → (through : ℕ) (nacks : List ℕ) (n : ℕ)
    → is_in (acked_of s through nacks) n ≡ (does_fly (standing s store n) && is_named through nacks n)
acked_is s store sound through nacks n =
    let place = place_of s.numbers n in
    run_has (λ m. acked_at s.numbers s.marks through nacks (place_of s.numbers m)) s.next.0 n
    ∙ by_bool (is_flying (mark_of s n))
    (λ t.
    let is = marked_is s store sound n (λ z. let e = eqb-true (mark_of s n) 2 t in omega arith) in
    rw (← flies_told s store n, t, is) (shorter (ltb n s.next.0) (is_named through nacks n)))
    (λ f. rw (← flies_told s store n, f) (none (ltb n s.next.0) (is_named through nacks n))) where
      shorter : (a c : Bool) → (a && c) ≡ ((a && true) && c)
      shorter true c = refl
      shorter false c = refl

      none : (a c : Bool) → (a && false) ≡ ((a && false) && c)
      none true c = refl
      none false c = refl

-- ascending, so that each of them counts once
pub acked_ascending : (s : Sender) (through : ℕ) (nacks : List ℕ) → ascending (acked_of s through nacks) ≡ true
acked_ascending s through nacks = run_ascending (λ n. acked_at s.numbers s.marks through nacks (place_of s.numbers n)) s.next.0 0

module _ (s : Sender) (through : ℕ) (nacks : List ℕ) (clock : ℕ) where
  -- what it leaves, once it is known whether something keeps it from being done
  refused_is : (n : ℕ) → acks_refusal s through (length nacks) clock ≡ refusal n → acks_of s through nacks clock ≡ record { says = refusal n; state = s; lent = [] }
  unfolding acks_of
  refused_is n e = simp e

  done_is : (given : List ℕ) → acks_refusal s through (length nacks) clock ≡ values given
      → acks_of s through nacks clock ≡ record { says = values (length (acked_of s through nacks) ∷ []); state = acks_leave s through nacks clock; lent = [] }
  unfolding acks_of
  done_is given e = simp e

  judged : {C : Type 0} → ((n : ℕ) → acks_refusal s through (length nacks) clock ≡ refusal n → (acks_of s through nacks clock).says ≡ refusal n → C)
      → ((given : List ℕ) → acks_refusal s through (length nacks) clock ≡ values given
      → (acks_of s through nacks clock).says ≡ values (length (acked_of s through nacks) ∷ []) → C) → C
  judged f g =
      by_said (acks_refusal s through (length nacks) clock)
      (λ n e. f n e (ap (λ (o : Outcome). o.says) (refused_is n e)))
      (λ given e. g given e (ap (λ (o : Outcome). o.says) (done_is given e)))

  -- a refusal changes nothing
  pub acks_nothing : (n : ℕ) → (acks_of s through nacks clock).says ≡ refusal n → (acks_of s through nacks clock).state ≡ s
  acks_nothing n e =
      judged
      (λ m q _. ap (λ (o : Outcome). o.state) (refused_is m q))
      (λ given q p. let z : ◌≡◌ {A = ℕ} 0 1 = cc in absurd (omega arith))

  module _ (store : List ℕ) (sound : Sound s store) where
    -- what holds where it is done
    module _ (blank : List ℕ) (pass : acks_refusal s through (length nacks) clock ≡ values blank) where
      record Passed : Type 0 where
        later : s.clock ≤ clock
        most : clock ≤ 1000000000000000
        few : length nacks ≤ 255
        within : through ≤ s.next.0

      passed : Passed
      unfolding acks_refusal
      passed =
          let p11 = past 11 (not (rules s)) _ blank pass in
          let p10 = past 10 (not (counts_fit s.chunk s.count)) _ blank p11.1 in
          let p24 = past 24 (clock_wrong s.clock clock) _ blank p10.1 in
          let p8 = past 8 (ltb 255 (length nacks)) _ blank p24.1 in
          let p23 = past 23 (ltb s.next.0 through) _ blank p8.1 in
          let fair = clock_fair s.clock clock p24.0 in
          record { later = fair.0; most = fair.1; few = ltb-false _ _ p8.0; within = ltb-false _ _ p23.0 }

      leave_sound : Sound (acks_leave s through nacks clock) store
      leave_sound =
          let r = facts s store sound in
          let w = grown_fits s.window (acked_of s through nacks) r.window_some r.window_most in
          freed_sound s store sound (acked_at s.numbers s.marks through nacks)
          (timed_by (measured_by s.numbers s.sent s.resent clock) s.timing (acked_of s through nacks)) (grown_by s.window (acked_of s through nacks)) clock
          passed.later passed.most (later_fits s.timer s.clock clock r.due passed.later)
          (timed_fits (measured_by s.numbers s.sent s.resent clock) (measured_fits s.numbers s.sent s.resent clock) s.timing (acked_of s through nacks) r.timing) w.0 w.1

      leave_means : (n : ℕ) → standing (acks_leave s through nacks clock) store n ≡ acked_as through nacks n (standing s store n)
      leave_means =
          freed_means s store sound through nacks
          (timed_by (measured_by s.numbers s.sent s.resent clock) s.timing (acked_of s through nacks)) (grown_by s.window (acked_of s through nacks)) clock leave_sound

    pub acks_changes : (given : List ℕ) → (acks_of s through nacks clock).says ≡ values given → LeavesFlight s through nacks clock store given
    acks_changes given done =
        judged
        (λ m q p. let z : ◌≡◌ {A = ℕ} 0 1 = cc in absurd (omega arith))
        (λ blank q p.
        let state_is = ap (λ (o : Outcome). o.state) (done_is blank q) in
        record {
          gives = cc;
          now_is = λ n. rw state_is (leave_means blank q n);
          next_is = ap (λ (x : Sender). x.next) state_is;
          chunk_is = ap (λ (x : Sender). x.chunk) state_is;
          count_is = ap (λ (x : Sender). x.count) state_is;
          clock_is = ap (λ (x : Sender). x.clock) state_is;
          later = (passed blank q).later;
          within = (passed blank q).within;
          few = (passed blank q).few;
        })

    -- acks keep a sound state and store sound, whatever they are given
    pub acks_sound : Sound (acks_of s through nacks clock).state store
    acks_sound =
        judged
        (λ m q p. rw (ap (λ (o : Outcome). o.state) (refused_is m q)) sound)
        (λ blank q p. rw (ap (λ (o : Outcome). o.state) (done_is blank q)) (leave_sound blank q))

    -- their answer in a sound state
    pub acks_answer : (acks_of s through nacks clock).says
        ≡ (refusal 24 when clock_wrong s.clock clock else
        refusal 8 when ltb 255 (length nacks) else
        refusal 23 when ltb s.next.0 through else
        values (length (acked_of s through nacks) ∷ []))
    unfolding acks_of acks_refusal
    acks_answer =
        rw (sound.keeps, counts_fit_lem s store sound)
        (by_bool (clock_wrong s.clock clock) (λ t. rw t)
        (λ f. rw f
        (by_bool (ltb 255 (length nacks)) (λ t. rw t)
        (λ g. rw g (by_bool (ltb s.next.0 through) (λ t. rw t) (λ h. rw h))))))

    -- none blames the rules or the sizes
    pub acks_fair : is_fair (acks_of s through nacks clock).says ≡ true
    acks_fair =
        rw acks_answer
        (fair_rung 24 (clock_wrong s.clock clock) _ refl
        (fair_rung 8 (ltb 255 (length nacks)) _ refl
        (fair_rung 23 (ltb s.next.0 through) _ refl refl)))
