-- The law of one call: what the bytes of its portion hold is what it answers, and then what the reader finds in the bytes that it did not use. Assumes nothing.
use Prim.Native.Nat.{ℕ, ◌≤◌, ◌<◌}
use mathlib.Core.Path.{◌≡◌, refl, ap, sym, ◌∙◌, subst}
use mathlib.Core.Bool.{true, false}
use mathlib.Core.List.{List, [], ◌∷◌}
use native.Mathlib.Omega.{arith}
use native.Mathlib.Decide.{ℕ_discrete}
use borrow.Author.Tests.{eq-eqb, ne_eqb, ltb-true}
use lib.ListN.{length, drop}
use lib.Seq.{take-append_seam}
use Rattle.std.proofs.lemmas.Grind.{common_steps}
use Rattle.terms.specs.Lists.{all}
use Rattle.terms.proofs.Laws.{case, and_left, and_right}
use Rattle.wire.specs.BigEndian.{is_byte}
use Rattle.portions.specs.Fold.{Left, behind, read_all}
use Rattle.portions.specs.Stops.{OneCall, unless_given, until_given}
use Rattle.portions.proofs.Stops as P
use Rattle.serial_state.specs.Frames.{Coming, idle, half, within, stopped, is_stopped, read_byte}
use Rattle.serial_state.specs.Rules.{coming_of, reader_of, line_rules}
use Rattle.serial_state.specs.declared.LineReader.{LineReader}
use Rattle.serial_state.proofs.Facts.{ruled, told_back, there_fits}
use Rattle.serial_feed.specs.Feed.{Feeds, heard_by, feed_of}
use Rattle.serial_feed.proofs.Bytes.{until_stopped}
use Rattle.serial_runs.specs.Offers.{packet_at, is_refusal}
use Rattle.serial_runs.proofs.Lines.{stays}

pub stopped_is : (coming : Coming) → is_stopped coming ≡ true → coming ≡ stopped
stopped_is idle e = cc
stopped_is (half high) e = cc
stopped_is (within size there) e = cc
stopped_is stopped e = refl

module _ (room : ℕ) where
  -- what is known keeps the rules if its numbers do
  abbrev pub Keeps : Coming → Type 0
  Keeps coming = line_rules (reader_of room coming) ≡ true

  -- a byte keeps the rules, and gives out one packet or none, for which there is room; then nothing is there
  record Kept (left : Left Coming (List ℕ)) : Type 0 where
    keeps : Keeps left.state
    given : (x : List ℕ) (y : List (List ℕ)) → left.gave ≡ x ∷ y → (left.state ≡ idle) × (y ≡ []) × (length x ≤ room)

  byte_kept : (coming : Coming) (byte : ℕ) → Keeps coming → byte < 256 → Kept (read_byte room coming byte)
  unfolding line_rules
  byte_kept idle byte k w = record { keeps = grind (arith, common_steps); given = λ x y e. cc }
  byte_kept (half high) byte k w = record { keeps = grind (arith, common_steps); given = λ x y e. cc }
  byte_kept (within size there) byte k w = record { keeps = grind (arith, common_steps); given = λ x y e. grind (arith, common_steps) }
  byte_kept stopped byte k w = record { keeps = refl; given = λ x y e. cc }

  pub one_at_most : (coming : Coming) (byte : ℕ) (x : List ℕ) (y : List (List ℕ)) → (read_byte room coming byte).gave ≡ x ∷ y → y ≡ []
  one_at_most idle byte x y e = cc
  one_at_most (half high) byte x y e = cc
  one_at_most (within size there) byte x y e = grind (arith, common_steps)
  one_at_most stopped byte x y e = cc

  -- the same of a call up to the first packet
  until : (coming : Coming) (portion : List ℕ) → Keeps coming → all is_byte portion ≡ true
      → Kept (record { state = (until_given (read_byte room) coming portion).state; gave = (until_given (read_byte room) coming portion).gave })
  until coming [] k w = record { keeps = k; given = λ x y e. cc }
  until coming (byte ∷ rest) k w =
      let b = byte_kept coming byte k (ltb-true byte 256 (and_left (is_byte byte) (all is_byte rest) w)) in
      go (read_byte room coming byte).gave b.keeps b.given (until (read_byte room coming byte).state rest b.keeps (and_right (is_byte byte) (all is_byte rest) w))
    where
      after : OneCall Coming (List ℕ)
      after = until_given (read_byte room) (read_byte room coming byte).state rest

      go : (gave : List (List ℕ)) → Keeps (read_byte room coming byte).state
          → ((x : List ℕ) (y : List (List ℕ)) → gave ≡ x ∷ y → ((read_byte room coming byte).state ≡ idle) × (y ≡ []) × (length x ≤ room))
          → Kept (record { state = after.state; gave = after.gave })
          → Kept (record { state = (unless_given gave (read_byte room coming byte).state after).state; gave = (unless_given gave (read_byte room coming byte).state after).gave })
      go (full ∷ others) keeps given u = record { keeps = keeps; given = λ x y e. let g = given full others refl in grind (arith, common_steps) }
      go [] keeps given u = u

-- The law of a call on a reader that keeps its rules, with its own buffer: 30 is the one refusal that it can give, and it stops the reader.
pub record FeedLaw (room : ℕ) (coming : Coming) (portion buffer : List ℕ) (fed : Feeds) : Type 0 where
  pub is : read_all (read_byte room) coming portion
      ≡ behind (packet_at fed.says fed.buffer) (read_all (read_byte room) (coming_of fed.state fed.buffer) (drop fed.used portion))
  pub in_portion : fed.used ≤ length portion
  pub rules : line_rules fed.state ≡ true
  pub room_is : fed.state.room ≡ room
  pub sized : length fed.buffer ≡ length buffer
  pub refusal_is : is_refusal fed.says ≡ is_stopped (coming_of fed.state fed.buffer)
  pub for_good : is_stopped coming ≡ true → is_refusal fed.says ≡ true
  pub goes_on : 0 < length portion → is_refusal fed.says ≡ false → 0 < fed.used

room_of : (room : ℕ) (coming : Coming) → (reader_of room coming).room ≡ room
room_of room idle = refl
room_of room (half high) = refl
room_of room (within size there) = refl
room_of room stopped = refl

module _ (room : ℕ) (coming : Coming) (portion buffer : List ℕ) (long : length buffer ≡ room) where
  -- a reader that has stopped gives nothing, and stays so
  still : is_stopped coming ≡ true → is_stopped (until_given (read_byte room) coming portion).state ≡ true
  still e = rw (stopped_is coming e, until_stopped room portion)

  law_by : (gave : List (List ℕ)) (used : ℕ) (state : Coming) → P.Does (read_byte room) (one_at_most room) coming portion gave used state
      → Kept room (record { state = state; gave = gave }) → (is_stopped coming ≡ true → is_stopped state ≡ true)
      → FeedLaw room coming portion buffer (heard_by room buffer (record { gave = gave; used = used; state = state }))
  unfolding heard_by line_rules
  law_by (x ∷ y) used state d u s =
      let g = u.given x y refl in
      rw (g.0)
      (record {
        is = d.is ∙ rw (g.0, g.1, take-append_seam x (drop (length x) buffer));
        in_portion = d.in_portion;
        rules = refl;
        room_is = refl;
        sized = let l = g.2 in grind (arith, common_steps);
        refusal_is = refl;
        for_good = λ b. let t = s b in cc;
        goes_on = λ _ _. (d.on_given x y refl).0;
      })
  law_by [] used stopped d u s =
      record {
        is = d.is ∙ rw (stays room (drop used portion), stays room portion);
        in_portion = omega arith;
        rules = refl;
        room_is = refl;
        sized = refl;
        refusal_is = refl;
        for_good = λ _. refl;
        goes_on = λ _ n. cc;
      }
  law_by [] used state d u s =
      record {
        is = d.is ∙ ap (λ (c : Coming). read_all (read_byte room) c (drop used portion)) (sym (told_back room state buffer));
        in_portion = d.in_portion;
        rules = u.keeps;
        room_is = refl;
        sized = let l = there_fits room state u.keeps in grind (arith, common_steps);
        refusal_is = ap is_stopped (sym (told_back room state buffer));
        for_good = λ b. let t = s b in cc;
        goes_on = λ some _. omega (arith, d.on_nothing refl);
      }

  heard_by_law : Keeps room coming → all is_byte portion ≡ true → FeedLaw room coming portion buffer (heard_by room buffer (until_given (read_byte room) coming portion))
  heard_by_law k w =
      let one = until_given (read_byte room) coming portion in
      law_by one.gave one.used one.state (P.does (read_byte room) (one_at_most room) coming portion) (until room coming portion k w) still

module _ (r : LineReader) (portion buffer : List ℕ) (h : line_rules r ≡ true) (w : all is_byte portion ≡ true) where
  pub feeds : length buffer ≡ r.room → FeedLaw r.room (coming_of r buffer) portion buffer (feed_of r portion buffer)
  unfolding feed_of
  feeds own = rw (h, eq-eqb (length buffer) r.room own) (heard_by_law r.room (coming_of r buffer) portion buffer own (subst (λ (x : LineReader). line_rules x ≡ true) (ruled r buffer h own) h) w)

  -- with any buffer, the rules stay
  pub feed_keeps : line_rules (feed_of r portion buffer).state ≡ true
  unfolding feed_of
  feed_keeps = case (λ own. (feeds own).rules) (λ n. rw (h, ne_eqb (length buffer) r.room n) h) (ℕ_discrete (length buffer) r.room)
