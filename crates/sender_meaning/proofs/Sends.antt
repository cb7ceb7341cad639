-- Send in the meaning's words: the lowest number that waits is in flight from the clock on, with its packet at the output's front, every other
-- number stands as it stood, and the state stays sound. Assumes nothing.
use Prim.Native.Nat.{ℕ, ◌+◌, ◌≤◌, ◌<◌}
use mathlib.Core.Path.{◌≡◌, refl, sym, ◌∙◌, ap}
use mathlib.Core.Bool.{Bool, true, false, true≢false}
use mathlib.Core.List.{List, [], ◌∷◌}
use mathlib.Core.Logic.{◌↔◌}
use native.Mathlib.Decide.{dec_le, dec_lt}
use native.Mathlib.Omega.{arith}
use borrow.Author.Tests.{lt-ltb, le-leb, ltb-true}
use lib.Dec.{leb, ltb}
use lib.ListN.{length}
use Rattle.terms.specs.Ladder.{◌when◌else◌}
use Rattle.terms.specs.Lists.{◌at_front_of◌}
use Rattle.terms.proofs.Laws.{case, and_left, and_right}
use Rattle.terms.specs.Answers.{Said, refusal, values}
use Rattle.receiver_calls.proofs.Laws.{by_said}
use Rattle.timer.specs.Timer.{rto_of}
use Rattle.timer.proofs.Laws.{rto_most}
use Rattle.sender_state.specs.Table.{◌!◌, place_of}
use Rattle.sender_state.specs.Rules.{timer_fits, clock_wrong}
use Rattle.sender_state.specs.declared.Sender.{Sender}
use Rattle.sender_state.specs.Numbers.{marked_with, waiting, in_flight, size_of, stored_packet}
use Rattle.sender_resend.specs.Resend.{is_empty}
use Rattle.sender_send.specs.Send.{send_said, armed, departed, send_of}
use Rattle.sender_state.proofs.Runs.{run_passes, run_below}
use Rattle.sender_send.proofs.Outcomes.{Leaves, leaves, send_refused, send_done}
use Rattle.sender_send.proofs.Ranks.{Ranked, ranked_of}
use Rattle.sender_meaning.specs.Meaning.{standing, does_wait, Sound}
use Rattle.sender_meaning.specs.Steps.{is_fair, sent_as}
use Rattle.sender_meaning.specs.Changes.{Departs}
use Rattle.sender_meaning.proofs.Counts.{none_in, fair_rung, run_lowest}
use Rattle.sender_meaning.proofs.Stands.{place_long, in_flight_count, waits_at, facts, stands_at, waiting_is, waits_told}
use Rattle.sender_meaning.proofs.Moves.{armed_fits, moved_sound, moved_means}

module _ (s : Sender) (clock : ℕ) (store output : List ℕ) where
  send_is : send_said s clock (length store) (length output) ≡ (send_of s clock store output).says
  unfolding send_of
  send_is = refl

  -- a refusal changes nothing
  pub send_nothing : (n : ℕ) → (send_of s clock store output).says ≡ refusal n → ((send_of s clock store output).state ≡ s) × ((send_of s clock store output).lent ≡ output)
  send_nothing n e = let k = send_refused s clock store output n (send_is ∙ e) in (rw k, rw k)

  -- where a number waits, the lowest stands at a place, with its packet
  module _ (sound : Sound s store) (some : 0 < length (waiting s)) where
    head_place : Ranked s sound.numbers_long sound.marks_long (omega (arith, sound.width)) 1 0 (waiting s ! 0)
    head_place = ranked_of s sound.numbers_long sound.marks_long (omega (arith, sound.width)) 1 0 (omega arith) some

    packet_long : length (stored_packet s store (waiting s ! 0)) ≡ size_of s (waiting s ! 0)
    packet_long = place_long s store sound (place_of s.numbers (waiting s ! 0)) head_place.place (λ z. omega (arith, head_place.marked))

  module _ (given : List ℕ) (done : (send_of s clock store output).says ≡ values given) (sound : Sound s store) where
    left : Leaves s clock (length store) (length output) given
    left = leaves s clock (length store) (length output) given (send_is ∙ done)

    there : Ranked s sound.numbers_long sound.marks_long (omega (arith, sound.width)) 1 0 (waiting s ! 0)
    there = head_place sound left.some

    became : ((send_of s clock store output).state ≡ departed s clock) × ((send_of s clock store output).lent ≡ stored_packet s store (waiting s ! 0) at_front_of output)
    became = let k = send_done s clock store output given (send_is ∙ done) in (rw k, rw k)

    first : (n : ℕ) → does_wait (standing s store n) ≡ true → waiting s ! 0 ≤ n
    first n t =
        let b = waits_told s store n ∙ t in
        run_lowest (λ m. marked_with 1 s.marks (place_of s.numbers m)) n (and_right (ltb n s.next.0) _ b) s.next.0 0 (omega arith)
        (omega (arith, ltb-true n s.next.0 (and_left (ltb n s.next.0) _ b)))

    bottom : (j : ℕ) → j < 192 → s.marks ! j ≡ 1 → s.numbers ! place_of s.numbers (waiting s ! 0) ≤ s.numbers ! j
    bottom j h w =
        let t : does_wait (standing s store (s.numbers ! j)) ≡ true = rw (stands_at s store sound j h (λ z. omega arith) ∙ waits_at s store j w) in
        omega (arith, there.has, first (s.numbers ! j) t)

    due : timer_fits (armed s.timer (clock + rto_of s.timing)) clock ≡ true
    due = armed_fits s.timer s.clock clock (rto_of s.timing) (facts s store sound).due left.later (rto_most s.timing)

    departed_sound : Sound (departed s clock) store
    departed_sound =
        moved_sound s store sound (place_of s.numbers (waiting s ! 0)) there.place there.marked bottom clock left.later left.open_window left.clock_most
        (armed s.timer (clock + rto_of s.timing)) due

    pub send_changes : Departs s clock store output given
    send_changes = record {
      told = waiting s ! 0;
      packet = stored_packet s store (waiting s ! 0);
      gives = let i = left.is in rw (packet_long sound left.some) (cc);
      was = ap (standing s store) (sym there.has) ∙ stands_at s store sound (place_of s.numbers (waiting s ! 0)) there.place (λ z. omega (arith, there.marked))
          ∙ waits_at s store (place_of s.numbers (waiting s ! 0)) there.marked;
      lowest = first;
      output_is = became.1;
      now_is = λ n.
          rw became.0
          (moved_means s store sound (place_of s.numbers (waiting s ! 0)) there.place there.marked bottom clock left.later
          (armed s.timer (clock + rto_of s.timing)) departed_sound n
          ∙ ap (λ (k : ℕ). sent_as k clock n (standing s store n)) there.has);
      next_is = ap (λ (x : Sender). x.next) became.0;
      chunk_is = ap (λ (x : Sender). x.chunk) became.0;
      count_is = ap (λ (x : Sender). x.count) became.0;
      clock_is = ap (λ (x : Sender). x.clock) became.0;
      later = left.later;
      room = omega (arith, left.open_window, in_flight_count s store sound);
    }

  -- send keeps a sound state and store sound, whatever it is given
  pub send_sound : Sound s store → Sound (send_of s clock store output).state store
  send_sound sound =
      by_said (send_of s clock store output).says
      (λ n e. rw (send_nothing n e).0 sound)
      (λ given e. rw (became given e sound).0 (departed_sound given e sound))

  -- no number waits exactly if the list of those that wait is empty
  pub nothing_waits : (is_empty (waiting s) ≡ true) ↔ ((n : ℕ) → does_wait (standing s store n) ≡ false)
  nothing_waits = (
    λ t n. sym (waiting_is s store n) ∙ none_in (waiting s) t n,
    λ f.
        case
        (λ (q : 0 < length (waiting s)).
        let p : ℕ → Bool = λ m. marked_with 1 s.marks (place_of s.numbers m) in
        let below : waiting s ! 0 < s.next.0 = omega (arith, run_below p s.next.0 0 0 q) in
        let Waits-there = waits_told s store (waiting s ! 0) in
        absurd (true≢false ((rw (lt-ltb (waiting s ! 0) s.next.0 below, run_passes p s.next.0 0 0 q) at Waits-there) ∙ f (waiting s ! 0))))
        (λ (q : 0 < length (waiting s) → ⊥). le-leb (length (waiting s)) 0 (omega arith))
        (dec_lt 0 (length (waiting s))),
  )

  -- its answer in a sound state, past a wrong clock: 17 exactly if no number waits, 22 exactly if one does and as many fly as the window or more
  pub send_answer : Sound s store → (send_of s clock store output).says
      ≡ (refusal 24 when clock_wrong s.clock clock else
      refusal 17 when is_empty (waiting s) else
      refusal 22 when leb s.window (length (in_flight s)) else
      refusal 7 when ltb (length output) (length (stored_packet s store (waiting s ! 0))) else
      values ((waiting s ! 0) ∷ length (stored_packet s store (waiting s ! 0)) ∷ []))
  unfolding send_said
  send_answer sound =
      sym send_is ∙ rw (sound.keeps, sound.fits, in_flight_count s store sound)
      (ap (λ (rest : Said). refusal 24 when clock_wrong s.clock clock else rest)
      (case
      (λ (q : length (waiting s) ≤ 0). rw (le-leb (length (waiting s)) 0 q))
      (λ (q : length (waiting s) ≤ 0 → ⊥). rw (packet_long sound (omega arith)))
      (dec_le (length (waiting s)) 0)))

  -- none blames the rules or the sizes
  pub send_fair : Sound s store → is_fair (send_of s clock store output).says ≡ true
  send_fair sound =
      rw (send_answer sound)
      (fair_rung 24 (clock_wrong s.clock clock) _ refl
      (fair_rung 17 (is_empty (waiting s)) _ refl
      (fair_rung 22 (leb s.window (length (in_flight s))) _ refl
      (fair_rung 7 (ltb (length output) (length (stored_packet s store (waiting s ! 0)))) _ refl refl))))
