-- Packets that fly get a new time, and nothing else of the table changes: the state stays sound, and each packet keeps its bytes. Assumes nothing.
use Prim.Native.Nat.{ℕ, zero, suc, ◌≤◌, ◌<◌}
use mathlib.Core.Path.{◌≡◌, refl, sym, ◌∙◌, ap}
use mathlib.Core.Bool.{Bool, and-false, true, false, true≢false}
use mathlib.Core.List.{List, [], ◌∷◌}
use native.Mathlib.Decide.{ℕ_discrete, dec_le}
use native.Mathlib.Omega.{arith}
use borrow.Author.Tests.{le-leb, lt-leb, ne_eqb, eqb-true}
use lib.Dec.{ltb}
use lib.ListN.{length, take}
use Rattle.std.specs.Prelude.{Option}
use Rattle.terms.specs.Lists.{all}
use Rattle.terms.proofs.Laws.{case, and_left, and_right, and_both}
use Rattle.timer.specs.Timer.{timing_fits, rto_of}
use Rattle.timer.specs.declared.Sampled.{Sampled}
use Rattle.sender_state.specs.Table.{◌!◌, is_flying, differs, place_of}
use Rattle.sender_state.specs.Places.{places_of, stamping, state_of}
use Rattle.sender_state.specs.Rules.{timer_fits}
use Rattle.sender_state.specs.declared.Sender.{Sender}
use Rattle.sender_state.proofs.Facts.{Ruled, rules_of_lem}
use Rattle.sender_state.specs.Numbers.{in_flight}
use Rattle.sender_resend.specs.Resend.{run_while, aged, expired_of, is_empty, is_in}
use Rattle.sender_state.proofs.Replaced.{replaced_at}
use Rattle.sender_meaning.specs.Meaning.{Standing, unmade, waits, flies, gone, mark_of, standing, does_fly, Sound}
use Rattle.sender_meaning.specs.Steps.{goes_again, resent_as}
use Rattle.sender_meaning.proofs.Counts.{by_bool, none_in}
use Rattle.sender_meaning.proofs.Stands.{in_flight_is, facts, own_place, marked_in, marked_is, flies_told}

-- what is in the front of a run's front is in the run
module _ (q : ℕ → Bool) where
  all_take : (k : ℕ) (l : List ℕ) → all q l ≡ true → all q (take k l) ≡ true
  all_take zero l t = refl
  all_take (suc k) [] t = refl
  all_take (suc k) (x ∷ l) t = and_both (q x) (all q (take k l)) (and_left (q x) (all q l) t) (all_take k l (and_right (q x) (all q l) t))

  pub all_while : (p : ℕ → Bool) (l : List ℕ) → all q l ≡ true → all q (run_while p l) ≡ true
  all_while p [] t = refl
  all_while p (x ∷ l) t =
      by_bool (p x)
      (λ e. rw e (and_both (q x) (all q (run_while p l)) (and_left (q x) (all q l) t) (all_while p l (and_right (q x) (all q l) t))))
      (λ e. rw e)

pub in_front : (p : ℕ → Bool) (k n : ℕ) (l : List ℕ) → is_in (take k (run_while p l)) n ≡ true → is_in l n ≡ true
in_front p k n l t =
    by_bool (all (differs n) l)
    (λ a. absurd (true≢false (sym t ∙ rw (all_take (differs n) k (run_while p l) (all_while (differs n) p l a)))))
    (λ a. rw a)

-- where none does, every number stands as it stood
pub none_again : (p : ℕ → Bool) → ((n : ℕ) → p n ≡ false) → (clock n : ℕ) (x : Standing) → x ≡ resent_as p clock n x
none_again p f clock n unmade = refl
none_again p f clock n (waits packet) = refl
none_again p f clock n (flies packet sent) = rw (f n)
none_again p f clock n gone = refl

-- the expired fly
pub expired_flies : (s : Sender) (store : List ℕ) (clock n : ℕ) → is_in (expired_of s clock) n ≡ true → does_fly (standing s store n) ≡ true
expired_flies s store clock n t =
    sym (in_flight_is s store n) ∙ in_front (aged s.numbers s.sent clock (rto_of s.timing)) s.window n (in_flight s) t

-- and where nothing flies, none goes again
pub idle_none : (s : Sender) (clock : ℕ) (path : Bool) → is_empty (in_flight s) ≡ true → (n : ℕ) → goes_again s clock path n ≡ false
idle_none s clock path t n =
    by_bool (is_in (expired_of s clock) n)
    (λ e.
    absurd (true≢false (sym (in_front (aged s.numbers s.sent clock (rto_of s.timing)) s.window n (in_flight s) e) ∙ none_in (in_flight s) t n)))
    (λ f. rw f (and-false path))

module _ (s : Sender) (store : List ℕ) (sound : Sound s store) where
  -- a place whose number flies is in flight
  pub flies_there : (i : ℕ) → i < 192 → does_fly (standing s store (s.numbers ! i)) ≡ true → s.marks ! i ≡ 2
  flies_there i h d =
      let n = s.numbers ! i in
      let e : mark_of s n ≡ 2 = eqb-true (mark_of s n) 2 (and_right (ltb n s.next.0) (is_flying (mark_of s n)) (flies_told s store n ∙ d)) in
      let full : mark_of s n ≡ 0 → ⊥ = λ z. omega arith in
      let r = facts s store sound in
      case
      (λ (z : s.marks ! i ≡ 0).
      absurd (omega (
        arith,
        r.no_number i (omega (arith, sound.marks_long)) z,
        marked_is s store sound n full,
        r.some (place_of s.numbers n) (omega (arith, sound.marks_long, marked_in s store sound n full)) full,
      )))
      (λ (o : s.marks ! i ≡ 0 → ⊥). ap (λ (k : ℕ). s.marks ! k) (sym (own_place s store sound i h o)) ∙ e)
      (ℕ_discrete (s.marks ! i) 0)

  -- the same table with other times, and others sent more than once
  module _ (window : ℕ) (timing : Option Sampled) (timer : Option ℕ) (clock : ℕ) (sent resent : List ℕ) (long : length sent ≡ 192) (flagged : length resent ≡ 192)
      (once : (i : ℕ) → i < 192 → (s.marks ! i ≡ 2 → ⊥) → resent ! i ≡ s.resent ! i) (flag : (i : ℕ) → i < 192 → resent ! i ≤ 1)
      (quiet : (i : ℕ) → i < 192 → (s.marks ! i ≡ 2 → ⊥) → sent ! i ≡ s.sent ! i) (past : (i : ℕ) → i < 192 → sent ! i ≤ clock)
      (most : clock ≤ 1000000000000000) (due : timer_fits timer clock ≡ true) (fits : timing_fits timing ≡ true) (least : 1 ≤ window) (top : window ≤ 128) where
    abbrev pub retimed : Sender
    retimed = state_of s.chunk s.count s.next.0 window timing timer clock
        (record { numbers = s.numbers; lengths = s.lengths; sent = sent; resent = resent; marks = s.marks })

    retimed_keeps : Ruled retimed
    retimed_keeps =
        let r = facts s store sound in
        let l = sound.marks_long in
        record {
          distinct = r.distinct;
          low = r.low;
          order = r.order;
          some = r.some;
          next_some = r.next_some;
          shut = r.shut;
          no_number = r.no_number;
          no_length = r.no_length;
          no_time = λ i h z. quiet i (omega arith) (λ e. omega arith) ∙ r.no_time i h z;
          no_resent = λ i h z. once i (omega arith) (λ e. omega arith) ∙ r.no_resent i h z;
          not_sent = λ i h w. quiet i (omega arith) (λ e. omega arith) ∙ r.not_sent i h w;
          unresent = λ i h w. once i (omega arith) (λ e. omega arith) ∙ r.unresent i h w;
          once_or_more = λ i h. flag i (omega arith);
          few = r.few;
          past = λ i h. past i (omega arith);
          due = due;
          window_some = least;
          window_most = top;
          timing = fits;
          long = r.long;
          short = r.short;
          clock_most = most;
          known = r.known;
        }

    pub retimed_sound : Sound retimed store
    retimed_sound = record {
      numbers_long = sound.numbers_long;
      lengths_long = sound.lengths_long;
      sent_long = long;
      resent_long = flagged;
      marks_long = sound.marks_long;
      keeps = rules_of_lem retimed retimed_keeps;
      fits = sound.fits;
      width = sound.width;
    }

  -- the numbers that pass fly since the clock, with the packets that they had, and every other number stands as it stood
  pub resent_means : (p : ℕ → Bool) (window : ℕ) (timing : Option Sampled) (timer : Option ℕ) (clock n : ℕ)
      → standing (state_of s.chunk s.count s.next.0 window timing timer clock (stamping (places_of s) (λ i. p (s.numbers ! i)) clock)) store n
      ≡ resent_as p clock n (standing s store n)
  unfolding standing
  resent_means p window timing timer clock n =
      case
      (λ (a : s.next.0 ≤ n). rw (le-leb _ _ a))
      (λ (a : s.next.0 ≤ n → ⊥).
      rw (lt-leb s.next.0 n (omega arith))
      (case
      (λ (w : mark_of s n ≡ 1). rw w)
      (λ (o : mark_of s n ≡ 1 → ⊥).
      case
      (λ (f : mark_of s n ≡ 2).
      let full : mark_of s n ≡ 0 → ⊥ = λ z. omega arith in
      let inside = marked_in s store sound n full in
      let is = replaced_at clock (λ i. p (s.numbers ! i)) s.sent (place_of s.numbers n) (omega (arith, sound.sent_long)) in
      rw (f, is, marked_is s store sound n full) (by_bool (p n) (λ t. rw t) (λ g. rw g)))
      (λ (g : mark_of s n ≡ 2 → ⊥). rw (ne_eqb _ _ o, ne_eqb _ _ g))
      (ℕ_discrete (mark_of s n) 2))
      (ℕ_discrete (mark_of s n) 1)))
      (dec_le s.next.0 n)
