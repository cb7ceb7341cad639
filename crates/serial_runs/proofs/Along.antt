-- Calls one after another: a host that offers again what was not used hears what the line holds, and then what is left of it. Assumes nothing.
use Prim.Native.Nat.{ℕ, ◌<◌}
use mathlib.Core.Path.{◌≡◌, refl, ap, sym, ◌∙◌}
use mathlib.Core.Bool.{Bool, true, false, ◌||◌, or-false}
use mathlib.Core.List.{List, [], ◌∷◌}
use mathlib.Core.Logic.{inl, inr, ⊎_elim}
use native.Mathlib.Omega.{arith}
use borrow.Author.Tests.{leb-true}
use lib.Dec.{leb}
use lib.Seq.{drop-nil}
use lib.ListN.{length, take, drop, take-append-drop, length-take, length-drop}
use Rattle.terms.specs.Lists.{all}
use Rattle.terms.proofs.Laws.{and_left, and_right}
use Rattle.wire.specs.BigEndian.{is_byte}
use Rattle.wire.proofs.RoundTrip.{all_take, all_drop}
use Rattle.portions.specs.Fold.{behind, read_all}
use Rattle.portions.proofs.Folds.{behind_behind}
use Rattle.portions.proofs.Stops.{in_line}
use Rattle.serial_state.specs.Frames.{is_stopped, read_byte}
use Rattle.serial_state.specs.Rules.{coming_of, line_rules}
use Rattle.serial_state.specs.declared.LineReader.{LineReader}
use Rattle.serial_feed.specs.Feed.{Feeds, feed_of}
use Rattle.serial_runs.specs.Offers.{Hearing, packet_at, is_refusal, hears, HostDone}
use Rattle.serial_runs.proofs.Calls.{one_at_most, FeedLaw, feeds}

pub record HostLaw (r : LineReader) (buffer line : List ℕ) (heard : Hearing) : Type 0 where
  pub is : read_all (read_byte r.room) (coming_of r buffer) line
      ≡ behind heard.packets (read_all (read_byte r.room) (coming_of heard.state heard.buffer) heard.unused)
  pub rules : line_rules heard.state ≡ true
  pub room : heard.state.room ≡ r.room
  pub sized : length heard.buffer ≡ length buffer
  pub refusal : (is_stopped (coming_of r buffer) || heard.refused) ≡ is_stopped (coming_of heard.state heard.buffer)

-- refused at the first call or later, of a reader that may have stopped before
or_in_turn : (before first later after : Bool) (mid : Bool) → (before ≡ true → first ≡ true) → first ≡ mid → (mid || later) ≡ after → (before || (first || later)) ≡ after
or_in_turn true first later after mid f e g = (rw (sym e ∙ f refl) at g)
or_in_turn false first later after mid f e g = rw e g

pub heard : (r : LineReader) (buffer line sizes : List ℕ) → line_rules r ≡ true → length buffer ≡ r.room → all is_byte line ≡ true
    → HostLaw r buffer line (hears r buffer line sizes)
heard r buffer line [] h own w = record { is = refl; rules = h; room = refl; sized = refl; refusal = or-false (is_stopped (coming_of r buffer)) }
heard r buffer line (size ∷ sizes) h own w =
    let call = feed_of r (take size line) buffer in
    let d = feeds r (take size line) buffer h (all_take is_byte size line w) own in
    let then = hears call.state call.buffer (drop call.used line) sizes in
    let a = heard call.state call.buffer (drop call.used line) sizes d.rules (d.sized ∙ own ∙ sym d.room_is) (all_drop is_byte call.used line w) in
    let later : read_all (read_byte r.room) (coming_of call.state call.buffer) (drop call.used line)
    ≡ behind then.packets (read_all (read_byte r.room) (coming_of then.state then.buffer) then.unused) = rw d.room_is at a.is in
    let law = in_line (read_byte r.room) (one_at_most r.room) (coming_of r buffer) (take size line) (drop size line) (packet_at call.says call.buffer) call.used
    (coming_of call.state call.buffer) d.is d.in_portion in
    record {
      is = (rw (take-append-drop size line) at law)
          ∙ ap (behind (packet_at call.says call.buffer)) later
          ∙ behind_behind (packet_at call.says call.buffer) then.packets (read_all (read_byte r.room) (coming_of then.state then.buffer) then.unused);
      rules = a.rules;
      room = a.room ∙ d.room_is;
      sized = a.sized ∙ d.sized;
      refusal = or_in_turn (is_stopped (coming_of r buffer)) (is_refusal call.says) then.refused _ (is_stopped (coming_of call.state call.buffer)) d.for_good d.refusal_is a.refusal;
    }

-- of a line of nothing, nothing is left
none_left : (r : LineReader) (buffer sizes : List ℕ) → (hears r buffer [] sizes).unused ≡ []
none_left r buffer [] = refl
none_left r buffer (size ∷ sizes) =
    let call = feed_of r (take size []) buffer in
    ap (λ (l : List ℕ). (hears call.state call.buffer l sizes).unused) (drop-nil call.used) ∙ none_left call.state call.buffer sizes

-- a host that offers some byte at each call is done after as many calls as there are bytes
pub gets_done : (r : LineReader) (buffer line sizes : List ℕ) → line_rules r ≡ true → length buffer ≡ r.room → all is_byte line ≡ true
    → all (leb 1) sizes ≡ true → length line < length sizes → HostDone (hears r buffer line sizes)
gets_done r buffer line [] h own w some short = absurd (omega arith)
gets_done r buffer [] (size ∷ sizes) h own w some short = inl (none_left r buffer (size ∷ sizes))
gets_done r buffer (b ∷ rest) (size ∷ sizes) h own w some short =
    go (is_refusal call.says) refl
    (gets_done call.state call.buffer (drop call.used line) sizes d.rules (d.sized ∙ own ∙ sym d.room_is) (all_drop is_byte call.used line w) (and_right (leb 1 size) (all (leb 1) sizes) some))
  where
    line : List ℕ
    line = b ∷ rest

    call : Feeds
    call = feed_of r (take size line) buffer

    d : FeedLaw r.room (coming_of r buffer) (take size line) buffer call
    d = feeds r (take size line) buffer h (all_take is_byte size line w) own

    go : (t : Bool) → is_refusal call.says ≡ t → (length (drop call.used line) < length sizes → HostDone (hears call.state call.buffer (drop call.used line) sizes))
        → HostDone (hears r buffer line (size ∷ sizes))
    go true e again = inr (rw e)
    go false e again =
        let one = leb-true 1 size (and_left (leb 1 size) (all (leb 1) sizes) some) in
        let used = d.goes_on (rw (length-take size line) (omega arith)) e in
        ⊎_elim (λ l. inl l) (λ t. inr (rw e t)) (again (rw (length-drop call.used line) (omega arith)))
