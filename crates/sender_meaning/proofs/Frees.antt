-- Places of acknowledged packets are freed: every field of such a place is 0, and every other place stays as it was. Assumes nothing.
use Prim.Native.Nat.{ℕ, ◌≤◌, ◌<◌}
use mathlib.Core.Path.{◌≡◌, refl, sym, ◌∙◌, ap}
use mathlib.Core.Bool.{Bool, true, false, ◌&&◌, true≢false}
use mathlib.Core.List.{List, [], ◌∷◌}
use native.Mathlib.Omega.{arith}
use borrow.Author.Tests.{eqb-true}
use lib.Dec.{eqb}
use lib.ListN.{length}
use Rattle.std.specs.Prelude.{Option}
use Rattle.terms.proofs.Laws.{and_left, and_right}
use Rattle.timer.specs.Window.{grown_of}
use Rattle.timer.specs.Timer.{timing_fits}
use Rattle.timer.specs.declared.Sampled.{Sampled}
use Rattle.timer.proofs.Laws.{sampled_fits, grown_least, grown_most}
use Rattle.sender_state.specs.Table.{◌!◌, is_flying, place_of, replaced}
use Rattle.sender_state.specs.Rules.{timer_fits}
use Rattle.sender_state.specs.declared.Sender.{Sender}
use Rattle.sender_state.proofs.Facts.{Ruled, rules_of_lem}
use Rattle.sender_acks.specs.Acks.{acked_at, sample_of, measured_by, timed_by, grown_by, freed_by}
use Rattle.sender_state.proofs.Replaced.{replaced_length, replaced_at}
use Rattle.sender_meaning.specs.Meaning.{Standing, unmade, waits, flies, gone, standing, does_fly, Sound}
use Rattle.sender_meaning.specs.Steps.{is_named, acked_as}
use Rattle.sender_meaning.proofs.Counts.{by_bool, count_freed}
use Rattle.sender_meaning.proofs.Stands.{flies_at, at_same, unmade_from, facts, one_place, where_is, nowhere_gone, stands_at, flies_mark}

-- what a number makes of a timing that fits is one, and a window from 1 to 128 stays one
pub measured_fits : (numbers sent resent : List ℕ) (clock : ℕ) (timing : Option Sampled) (n : ℕ) → timing_fits timing ≡ true → timing_fits (measured_by numbers sent resent clock timing n) ≡ true
measured_fits numbers sent resent clock timing n t =
    by_bool (eqb (resent ! place_of numbers n) 1)
    (λ again. rw again t)
    (λ once. rw once (sampled_fits timing (sample_of numbers sent clock n) t (omega arith)))

pub timed_fits : (measured : Option Sampled → ℕ → Option Sampled) → ((timing : Option Sampled) (n : ℕ) → timing_fits timing ≡ true → timing_fits (measured timing n) ≡ true)
    → (timing : Option Sampled) (l : List ℕ) → timing_fits timing ≡ true → timing_fits (timed_by measured timing l) ≡ true
timed_fits measured f timing [] t = t
timed_fits measured f timing (n ∷ l) t = timed_fits measured f _ l (f timing n t)

pub grown_fits : (window : ℕ) (l : List ℕ) → 1 ≤ window → window ≤ 128 → (1 ≤ grown_by window l) × (grown_by window l ≤ 128)
grown_fits window [] a b = (a, b)
grown_fits window (n ∷ l) a b = grown_fits (grown_of window) l (grown_least window a) (grown_most window b)

-- a list with 0 in the places that pass
module _ (pass : ℕ → Bool) (l : List ℕ) (i : ℕ) (inside : i < length l) where
  freed_here : pass i ≡ true → replaced 0 pass 0 l ! i ≡ 0
  freed_here t = replaced_at 0 pass l i inside ∙ rw t

  freed_there : pass i ≡ false → replaced 0 pass 0 l ! i ≡ l ! i
  freed_there f = replaced_at 0 pass l i inside ∙ rw f

module _ (s : Sender) (store : List ℕ) (sound : Sound s store) (pass : ℕ → Bool) (timing : Option Sampled) (window clock : ℕ) where
  -- a place that is not free was not free, and is none of those
  module _ (i : ℕ) (h : i < 192) (o : replaced 0 pass 0 s.marks ! i ≡ 0 → ⊥) where
    spared : pass i ≡ false
    spared = by_bool (pass i) (λ t. absurd (o (freed_here pass s.marks i (omega (arith, sound.marks_long)) t))) (λ f. f)

    mark_stays : replaced 0 pass 0 s.marks ! i ≡ s.marks ! i
    mark_stays = freed_there pass s.marks i (omega (arith, sound.marks_long)) spared

    was_full : s.marks ! i ≡ 0 → ⊥
    was_full z = o (mark_stays ∙ z)

    number_stays : replaced 0 pass 0 s.numbers ! i ≡ s.numbers ! i
    number_stays = freed_there pass s.numbers i (omega (arith, sound.numbers_long)) spared

    length_stays : replaced 0 pass 0 s.lengths ! i ≡ s.lengths ! i
    length_stays = freed_there pass s.lengths i (omega (arith, sound.lengths_long)) spared

    time_stays : replaced 0 pass 0 s.sent ! i ≡ s.sent ! i
    time_stays = freed_there pass s.sent i (omega (arith, sound.sent_long)) spared

    resent_stays : replaced 0 pass 0 s.resent ! i ≡ s.resent ! i
    resent_stays = freed_there pass s.resent i (omega (arith, sound.resent_long)) spared

  -- a free place was free, or is one of those
  emptied : (l : List ℕ) → length l ≡ 192 → (i : ℕ) → i < 192 → replaced 0 pass 0 s.marks ! i ≡ 0 → (s.marks ! i ≡ 0 → l ! i ≡ 0) → replaced 0 pass 0 l ! i ≡ 0
  emptied l long i h z f =
      by_bool (pass i) (freed_here pass l i (omega arith))
      (λ e. freed_there pass l i (omega arith) e ∙ f (sym (freed_there pass s.marks i (omega (arith, sound.marks_long)) e) ∙ z))

  pub freed_keeps : s.clock ≤ clock → clock ≤ 1000000000000000 → timer_fits s.timer clock ≡ true → timing_fits timing ≡ true → 1 ≤ window → window ≤ 128
      → Ruled (freed_by s timing window clock pass)
  freed_keeps later most due fits least top =
      let r = facts s store sound in
      let l : length (replaced 0 pass 0 s.marks) ≡ 192 = replaced_length 0 pass 0 s.marks ∙ sound.marks_long in
      let long = sound.marks_long in
      record {
        distinct = λ i j h k o a b e.
            r.distinct i j (omega arith) (omega arith) o (was_full i (omega arith) a) (was_full j (omega arith) b)
            (sym (number_stays i (omega arith) a) ∙ e ∙ number_stays j (omega arith) b);
        low = λ i h o. rw (number_stays i (omega arith) o) (r.low i (omega arith) (was_full i (omega arith) o));
        order = λ i j h k f w.
            let a : replaced 0 pass 0 s.marks ! i ≡ 0 → ⊥ = λ z. omega arith in
            let b : replaced 0 pass 0 s.marks ! j ≡ 0 → ⊥ = λ z. omega arith in
            rw (number_stays i (omega arith) a, number_stays j (omega arith) b)
            (r.order i j (omega arith) (omega arith) (sym (mark_stays i (omega arith) a) ∙ f) (sym (mark_stays j (omega arith) b) ∙ w));
        some = λ i h o. rw (number_stays i (omega arith) o) (r.some i (omega arith) (was_full i (omega arith) o));
        next_some = r.next_some;
        shut = λ i h a.
            by_bool (pass i) (freed_here pass s.marks i (omega arith)) (λ e. freed_there pass s.marks i (omega arith) e ∙ r.shut i (omega arith) a);
        no_number = λ i h z. emptied s.numbers sound.numbers_long i (omega arith) z (r.no_number i (omega arith));
        no_length = λ i h z. emptied s.lengths sound.lengths_long i (omega arith) z (r.no_length i (omega arith));
        no_time = λ i h z. emptied s.sent sound.sent_long i (omega arith) z (r.no_time i (omega arith));
        no_resent = λ i h z. emptied s.resent sound.resent_long i (omega arith) z (r.no_resent i (omega arith));
        not_sent = λ i h w.
            let o : replaced 0 pass 0 s.marks ! i ≡ 0 → ⊥ = λ z. omega arith in
            time_stays i (omega arith) o ∙ r.not_sent i (omega arith) (sym (mark_stays i (omega arith) o) ∙ w);
        unresent = λ i h w.
            let o : replaced 0 pass 0 s.marks ! i ≡ 0 → ⊥ = λ z. omega arith in
            resent_stays i (omega arith) o ∙ r.unresent i (omega arith) (sym (mark_stays i (omega arith) o) ∙ w);
        once_or_more = λ i h.
            by_bool (pass i)
            (λ t. rw (freed_here pass s.resent i (omega (arith, sound.resent_long)) t) (omega arith))
            (λ e. rw (freed_there pass s.resent i (omega (arith, sound.resent_long)) e) (r.once_or_more i (omega arith)));
        few = omega (arith, count_freed 2 (omega arith) pass 0 s.marks, r.few);
        past = λ i h.
            by_bool (pass i)
            (λ t. rw (freed_here pass s.sent i (omega (arith, sound.sent_long)) t) (omega arith))
            (λ e. rw (freed_there pass s.sent i (omega (arith, sound.sent_long)) e) (omega (arith, r.past i (omega arith))));
        due = due;
        window_some = least;
        window_most = top;
        timing = fits;
        long = λ i h o. rw (length_stays i (omega arith) o) (r.long i (omega arith) (was_full i (omega arith) o));
        short = λ i h o. rw (length_stays i (omega arith) o) (r.short i (omega arith) (was_full i (omega arith) o));
        clock_most = most;
        known = λ i h.
            by_bool (pass i)
            (λ t. rw (freed_here pass s.marks i (omega arith) t) (omega arith))
            (λ e. rw (freed_there pass s.marks i (omega arith) e) (r.known i (omega arith)));
      }

  pub freed_sound : s.clock ≤ clock → clock ≤ 1000000000000000 → timer_fits s.timer clock ≡ true → timing_fits timing ≡ true → 1 ≤ window → window ≤ 128
      → Sound (freed_by s timing window clock pass) store
  freed_sound later most due fits least top = record {
    numbers_long = replaced_length 0 pass 0 s.numbers ∙ sound.numbers_long;
    lengths_long = replaced_length 0 pass 0 s.lengths ∙ sound.lengths_long;
    sent_long = replaced_length 0 pass 0 s.sent ∙ sound.sent_long;
    resent_long = replaced_length 0 pass 0 s.resent ∙ sound.resent_long;
    marks_long = replaced_length 0 pass 0 s.marks ∙ sound.marks_long;
    keeps = rules_of_lem (freed_by s timing window clock pass) (freed_keeps later most due fits least top);
    fits = sound.fits;
    width = sound.width;
  }

-- what flies no more, and what stays
stays : (through : ℕ) (nacks : List ℕ) (n : ℕ) (x : Standing) → (does_fly x ≡ true → is_named through nacks n ≡ false) → acked_as through nacks n x ≡ x
stays through nacks n unmade f = refl
stays through nacks n (waits packet) f = refl
stays through nacks n (flies packet sent) f = rw (f refl)
stays through nacks n gone f = refl

module _ (s : Sender) (store : List ℕ) (sound : Sound s store) (through : ℕ) (nacks : List ℕ) (timing : Option Sampled) (window clock : ℕ) where
  abbrev pass : ℕ → Bool
  pass = acked_at s.numbers s.marks through nacks

  -- what was in flight, at most ack-through and not NACKed, is gone, and every other number stands as it stood
  pub freed_means : Sound (freed_by s timing window clock pass) store → (n : ℕ)
      → standing (freed_by s timing window clock pass) store n ≡ acked_as through nacks n (standing s store n)
  freed_means after n =
      let t = freed_by s timing window clock pass in
      let full = was_full s store sound pass timing window clock in
      let number_is = number_stays s store sound pass timing window clock in
      where_is s store sound n
      (λ a. unmade_from t store n a ∙ sym (ap (acked_as through nacks n) (unmade_from s store n a)))
      (λ a f.
      nowhere_gone t store after n a (λ i h o e. f i h (full i h o) (sym (number_is i h o) ∙ e))
      ∙ sym (ap (acked_as through nacks n) (nowhere_gone s store sound n a f)))
      (λ i h o e.
      by_bool (pass i)
      (λ p.
      let flew = eqb-true (s.marks ! i) 2 (and_left (is_flying (s.marks ! i)) _ p) in
      let heard = and_right (is_flying (s.marks ! i)) (is_named through nacks (s.numbers ! i)) p in
      rw (← e)
      (nowhere_gone t store after (s.numbers ! i) ((facts s store sound).low i (omega (arith, sound.marks_long)) o)
      (λ j k u q.
      let same = one_place s store sound j i k h (full j k u) o (sym (number_is j k u) ∙ q) in
      true≢false (sym p ∙ ap pass (sym same) ∙ spared s store sound pass timing window clock j k u))
      ∙ sym (rw (stands_at s store sound i h o ∙ flies_at s store i flew, heard))))
      (λ p.
      let m = freed_there pass s.marks i (omega (arith, sound.marks_long)) p in
      let u : t.marks ! i ≡ 0 → ⊥ = λ z. o (sym m ∙ z) in
      let same = stands_at t store after i h u
      ∙ at_same s t store i refl (length_stays s store sound pass timing window clock i h u) (time_stays s store sound pass timing window clock i h u) m
      ∙ sym (stands_at s store sound i h o) in
      rw (← e)
      (ap (standing t store) (sym (number_is i h u)) ∙ same
      ∙ sym (stays through nacks (s.numbers ! i) (standing s store (s.numbers ! i))
      (λ d. unheard (is_flying (s.marks ! i)) _ (sym (flies_mark s store sound i h o) ∙ d) p)))))
    where
      unheard : (a b : Bool) → a ≡ true → (a && b) ≡ false → b ≡ false
      unheard a b e f = rw e at f
