-- Fetch in the meaning's words: the number at the rank of those in flight flies as the packet at the output's front. It changes no state.
-- Assumes nothing.
use Prim.Native.Nat.{ℕ, ◌≤◌, ◌<◌}
use mathlib.Core.Path.{◌≡◌, refl, sym, ◌∙◌, ap}
use mathlib.Core.Bool.{true, not}
use mathlib.Core.List.{List, [], ◌∷◌}
use native.Mathlib.Decide.{dec_le}
use native.Mathlib.Omega.{arith}
use borrow.Author.Tests.{le-leb, leb-false}
use lib.Dec.{leb, ltb}
use lib.ListN.{length}
use Rattle.terms.specs.Ladder.{◌when◌else◌}
use Rattle.terms.proofs.Laws.{case, past}
use Rattle.terms.specs.Answers.{refusal, values}
use Rattle.sender_state.specs.Table.{◌!◌, place_of}
use Rattle.sender_state.specs.Rules.{rules, sizes_fit}
use Rattle.sender_state.specs.declared.Sender.{Sender}
use Rattle.sender_state.specs.Numbers.{in_flight, size_of, stored_packet}
use Rattle.sender_send.specs.Fetch.{fetch_said, fetch_of}
use Rattle.sender_send.proofs.Ranks.{Ranked, ranked_of}
use Rattle.sender_meaning.specs.Meaning.{standing, Sound}
use Rattle.sender_meaning.specs.Steps.{is_fair}
use Rattle.sender_meaning.specs.Changes.{Fetched}
use Rattle.sender_meaning.proofs.Counts.{fair_rung}
use Rattle.sender_meaning.proofs.Stands.{flies_at, stands_at, place_long}

module _ (s : Sender) (rank : ℕ) (store output : List ℕ) where
  fetch_is : fetch_said s rank (length store) (length output) ≡ (fetch_of s rank store output).says
  unfolding fetch_of
  fetch_is = refl

  -- a refusal changes nothing
  pub fetch_nothing : (n : ℕ) → (fetch_of s rank store output).says ≡ refusal n → (fetch_of s rank store output).output ≡ output
  unfolding fetch_of
  fetch_nothing n e = rw (fetch_is ∙ e)

  module _ (sound : Sound s store) where
    module _ (inside : rank < length (in_flight s)) where
      there : Ranked s sound.numbers_long sound.marks_long (omega (arith, sound.width)) 2 rank (in_flight s ! rank)
      there = ranked_of s sound.numbers_long sound.marks_long (omega (arith, sound.width)) 2 rank (omega arith) inside

      packet_long : length (stored_packet s store (in_flight s ! rank)) ≡ size_of s (in_flight s ! rank)
      packet_long = place_long s store sound (place_of s.numbers (in_flight s ! rank)) there.place (λ z. omega (arith, there.marked))

    pub fetch_gives : (given : List ℕ) → (fetch_of s rank store output).says ≡ values given → Fetched s rank store output given
    unfolding fetch_of fetch_said
    fetch_gives given done =
        let p11 = past 11 (not (rules s)) _ given (fetch_is ∙ done) in
        let p10 = past 10 (not (sizes_fit s.chunk s.count (length store))) _ given p11.1 in
        let p17 = past 17 (leb (length (in_flight s)) rank) _ given p10.1 in
        let p7 = past 7 (ltb (length output) (size_of s (in_flight s ! rank))) _ given p17.1 in
        let inside : rank < length (in_flight s) = leb-false _ _ p17.0 in
        let place = place_of s.numbers (in_flight s ! rank) in
        let full : s.marks ! place ≡ 0 → ⊥ = λ z. omega (arith, (there inside).marked) in
        record {
          packet = stored_packet s store (in_flight s ! rank);
          sent = s.sent ! place;
          inside = inside;
          is = ap (standing s store) (sym (there inside).has) ∙ stands_at s store sound place (there inside).place full ∙ flies_at s store place (there inside).marked;
          gives = let i = p7.1 in rw (packet_long inside) (cc);
          output_is = rw done;
        }

    -- its answer in a sound state
    pub fetch_answer : (fetch_of s rank store output).says
        ≡ (refusal 17 when leb (length (in_flight s)) rank else
        refusal 7 when ltb (length output) (length (stored_packet s store (in_flight s ! rank))) else
        values (length (stored_packet s store (in_flight s ! rank)) ∷ []))
    unfolding fetch_said
    fetch_answer =
        sym fetch_is ∙ rw (sound.keeps, sound.fits)
        (case
        (λ (q : length (in_flight s) ≤ rank). rw (le-leb (length (in_flight s)) rank q))
        (λ (q : length (in_flight s) ≤ rank → ⊥). rw (packet_long (omega arith)))
        (dec_le (length (in_flight s)) rank))

    -- none blames the rules or the sizes
    pub fetch_fair : is_fair (fetch_of s rank store output).says ≡ true
    fetch_fair =
        rw fetch_answer
        (fair_rung 17 (leb (length (in_flight s)) rank) _ refl
        (fair_rung 7 (ltb (length output) (length (stored_packet s store (in_flight s ! rank)))) _ refl refl))
