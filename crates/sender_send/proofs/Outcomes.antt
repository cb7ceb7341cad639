-- What holds where a packet leaves, and what the calls leave once the answer is known. Assumes nothing.
use Prim.Native.Nat.{ℕ, ◌≤◌, ◌<◌}
use mathlib.Core.Path.{◌≡◌}
use mathlib.Core.Bool.{true, not}
use mathlib.Core.List.{List, [], ◌∷◌}
use borrow.Author.Tests.{leb-false, ltb-false, not-false}
use lib.Dec.{leb, ltb}
use lib.ListN.{length}
use Rattle.terms.specs.Lists.{◌at_front_of◌}
use Rattle.terms.specs.Answers.{refusal, values}
use Rattle.terms.proofs.Laws.{past as passed-rung}
use Rattle.sender_state.specs.Table.{◌!◌, count_of}
use Rattle.sender_state.specs.Rules.{rules, sizes_fit, clock_wrong}
use Rattle.sender_state.specs.declared.Sender.{Sender}
use Rattle.sender_state.specs.Numbers.{waiting, size_of, stored_packet}
use Rattle.sender_state.proofs.Facts.{clock_fair}
use Rattle.sender_send.specs.Send.{send_said, departed, send_of}

-- what holds where a packet leaves
pub record Leaves (s : Sender) (clock store_length room : ℕ) (given : List ℕ) : Type 0 where
  pub keeps : rules s ≡ true
  pub fits : sizes_fit s.chunk s.count store_length ≡ true
  pub later : s.clock ≤ clock
  pub clock_most : clock ≤ 1000000000000000
  pub some : 0 < length (waiting s)
  pub open_window : count_of 2 s.marks < s.window
  pub room_is : size_of s (waiting s ! 0) ≤ room
  pub is : values ((waiting s ! 0) ∷ size_of s (waiting s ! 0) ∷ []) ≡ values given

pub leaves : (s : Sender) (clock store_length room : ℕ) (given : List ℕ) → send_said s clock store_length room ≡ values given → Leaves s clock store_length room given
unfolding send_said
leaves s clock store_length room given h =
    let p11 = passed-rung 11 (not (rules s)) _ given h in
    let p10 = passed-rung 10 (not (sizes_fit s.chunk s.count store_length)) _ given p11.1 in
    let p24 = passed-rung 24 (clock_wrong s.clock clock) _ given p10.1 in
    let p17 = passed-rung 17 (leb (length (waiting s)) 0) _ given p24.1 in
    let p22 = passed-rung 22 (leb s.window (count_of 2 s.marks)) _ given p17.1 in
    let p7 = passed-rung 7 (ltb room (size_of s (waiting s ! 0))) _ given p22.1 in
    let fair = clock_fair s.clock clock p24.0 in
    record {
      keeps = not-false (rules s) p11.0;
      fits = not-false (sizes_fit s.chunk s.count store_length) p10.0;
      later = fair.0;
      clock_most = fair.1;
      some = leb-false _ _ p17.0;
      open_window = leb-false _ _ p22.0;
      room_is = ltb-false _ _ p7.0;
      is = p7.1;
    }

-- what send leaves, once the answer is known
module _ (s : Sender) (clock : ℕ) (store output : List ℕ) where
  pub send_refused : (n : ℕ) → send_said s clock (length store) (length output) ≡ refusal n → send_of s clock store output ≡ record { says = refusal n; state = s; lent = output }
  unfolding send_of
  send_refused n e = simp e

  pub send_done : (given : List ℕ) → send_said s clock (length store) (length output) ≡ values given
      → send_of s clock store output ≡ record { says = values given; state = departed s clock; lent = stored_packet s store (waiting s ! 0) at_front_of output }
  unfolding send_of
  send_done given e = simp e
