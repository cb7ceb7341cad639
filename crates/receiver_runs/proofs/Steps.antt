-- What is known at each point of a run holds at its start and is kept by every call, whatever is asked: so it holds at the end of every
-- run. Told by the laws of the receiver and of the acknowledgement alone. Assumes nothing.
use Prim.Native.Nat.{ℕ, ◌+◌, ◌≤◌, ◌<◌, ◌^◌}
use mathlib.Core.Path.{◌≡◌, refl, sym, ◌∙◌, ap, subst}
use mathlib.Core.Bool.{true}
use mathlib.Core.List.{List, [], ◌∷◌, ◌++◌, append-nil, append_assoc}
use native.Mathlib.Nat.{add-zero, sub-zero}
use native.Mathlib.Decide.{dec_le}
use native.Mathlib.Omega.{arith}
use borrow.Author.Tests.{ltb-true, lt-ltb, le-ltb, le-leb, lt-leb, ne_eqb}
use lib.ListN.{length}
use lib.Seq.{append_snoc, take-append_seam}
use Rattle.terms.specs.declared.SeqNo.{SeqNo}
use Rattle.terms.specs.Lists.{all, ◌at_front_of◌}
use Rattle.terms.proofs.Laws.{case, and_left, and_right}
use Rattle.terms.proofs.Scan.{all_append}
use Rattle.terms.specs.Answers.{Said, refusal, values}
use Rattle.receiver_state.specs.Start.{start_of}
use Rattle.receiver_calls.specs.Accept.{accept_of}
use Rattle.receiver_calls.specs.Take.{take_of}
use Rattle.receiver_calls.proofs.Laws.{by_said, start_standing, start_sound, start_slot, start_next, start_highest, accept_changes, accept_nothing, accept_sound, accept_fair, accept_slot, take_changes, take_nothing, take_sound, take_fair, take_slot, slot_fits_lem}
use Rattle.receiver_ack.proofs.PlainAck.{acknowledge_fair}
use Rattle.receiver_runs.specs.Runs.{Call, accept, take, acknowledge, Event, Kept, step_of, kept_after, events_of, in_width, all_in_width, begun}
use Rattle.receiver_runs.specs.History.{Piece, accepted_by, accepted_in, taken_by, taken_in, refused_by, refused_in}
use Rattle.receiver_runs.specs.Delivered.{blames_neither}
use Rattle.receiver_runs.proofs.Pieces.{some_not_none}
use Rattle.receiver_runs.proofs.Starts.{start_start, accept_start, take_start}
use Rattle.receiver_runs.proofs.Known.{Known, entered, passed}

-- what is known, of a history
pub record At (s slot : ℕ) (kept : Kept) (history : List Event) : Type 0 where
  pub known : Known s slot kept.state kept.store (accepted_in history) (taken_in history)
  pub fair : all blames_neither (refused_in history) ≡ true

-- a history with one event more
module _ (e : Event) where
  accepted_more : (h : List Event) → accepted_in (h ++ (e ∷ [])) ≡ accepted_in h ++ accepted_by e.asked e.answered
  accepted_more [] = append-nil (accepted_by e.asked e.answered)
  accepted_more (x ∷ h) = rw (accepted_more h) (sym (append_assoc (accepted_by x.asked x.answered) (accepted_in h) (accepted_by e.asked e.answered)))

  taken_more : (h : List Event) → taken_in (h ++ (e ∷ [])) ≡ taken_in h ++ taken_by e.asked e.next e.answered e.output
  taken_more [] = append-nil (taken_by e.asked e.next e.answered e.output)
  taken_more (x ∷ h) =
      rw (taken_more h)
      (sym (append_assoc (taken_by x.asked x.next x.answered x.output) (taken_in h) (taken_by e.asked e.next e.answered e.output)))

  refused_more : (h : List Event) → refused_in (h ++ (e ∷ [])) ≡ refused_in h ++ refused_by e.answered
  refused_more [] = append-nil (refused_by e.answered)
  refused_more (x ∷ h) = rw (refused_more h) (sym (append_assoc (refused_by x.answered) (refused_in h) (refused_by e.answered)))

fair_one : (says : Said) → ((n : ℕ) → says ≡ refusal n → (n ≡ 11 → ⊥) × (n ≡ 10 → ⊥)) → all blames_neither (refused_by says) ≡ true
fair_one (refusal n) f = let g = f n refl in simp (ne_eqb n 11 g.0, ne_eqb n 10 g.1)
fair_one (values given) f = refl

module _ (s slot : ℕ) (h : List Event) (e : Event) where
  -- with what the event brought and took
  grown : (after : Kept) (brought took : List Piece) → accepted_by e.asked e.answered ≡ brought → taken_by e.asked e.next e.answered e.output ≡ took
      → Known s slot after.state after.store (accepted_in h ++ brought) (taken_in h ++ took)
      → all blames_neither (refused_in h) ≡ true → ((n : ℕ) → e.answered ≡ refusal n → (n ≡ 11 → ⊥) × (n ≡ 10 → ⊥))
      → At s slot after (h ++ (e ∷ []))
  grown after brought took a t k fair f =
      record {
        known = rw (accepted_more e h, taken_more e h, a, t) k;
        fair = rw (refused_more e h, all_append, fair) (fair_one e.answered f);
      }

  -- an event that changed nothing
  same : (before after : Kept) → At s slot before h → after.state ≡ before.state → after.store ≡ before.store
      → accepted_by e.asked e.answered ≡ [] → taken_by e.asked e.next e.answered e.output ≡ []
      → ((n : ℕ) → e.answered ≡ refusal n → (n ≡ 11 → ⊥) × (n ≡ 10 → ⊥))
      → At s slot after (h ++ (e ∷ []))
  same before after at p q a t f =
      grown after [] [] a t (rw (append-nil (accepted_in h), append-nil (taken_in h), p, q) at.known) at.fair f

  -- with nothing brought
  grown_take : (after : Kept) (piece : Piece) → accepted_by e.asked e.answered ≡ [] → taken_by e.asked e.next e.answered e.output ≡ piece ∷ []
      → Known s slot after.state after.store (accepted_in h) (taken_in h ++ (piece ∷ []))
      → all blames_neither (refused_in h) ≡ true → ((n : ℕ) → e.answered ≡ refusal n → (n ≡ 11 → ⊥) × (n ≡ 10 → ⊥))
      → At s slot after (h ++ (e ∷ []))
  grown_take after piece a t k = grown after [] (piece ∷ []) a t (rw (append-nil (accepted_in h)) k)

  -- with nothing taken
  grown_accept : (after : Kept) (piece : Piece) → accepted_by e.asked e.answered ≡ piece ∷ [] → taken_by e.asked e.next e.answered e.output ≡ []
      → Known s slot after.state after.store (accepted_in h ++ (piece ∷ [])) (taken_in h)
      → all blames_neither (refused_in h) ≡ true → ((n : ℕ) → e.answered ≡ refusal n → (n ≡ 11 → ⊥) × (n ≡ 10 → ⊥))
      → At s slot after (h ++ (e ∷ []))
  grown_accept after piece a t k = grown after (piece ∷ []) [] a t (rw (append-nil (taken_in h)) k)

-- an accepted packet is counted, and a refused one is not
brought : (number : SeqNo) (payload : List ℕ) (says : Said) (given : List ℕ) → says ≡ values given
    → accepted_by (accept number payload) says ≡ record { number = number.0; bytes = payload } ∷ []
brought number payload says given e = rw e

brought_not : (number : SeqNo) (payload : List ℕ) (says : Said) (n : ℕ) → says ≡ refusal n → accepted_by (accept number payload) says ≡ []
brought_not number payload says n e = rw e

-- what a take gave is what was held
gave : (room : List ℕ) (next : ℕ) (says : Said) (given bytes output after : List ℕ) → says ≡ values given → given ≡ length bytes ∷ [] → after ≡ bytes at_front_of output
    → taken_by (take room) next says after ≡ record { number = next; bytes = bytes } ∷ []
gave room next says given bytes output after e f g =
    rw (e, f, g, sub-zero (length bytes), take-append_seam bytes)

gave_not : (room : List ℕ) (next : ℕ) (says : Said) (n : ℕ) (after : List ℕ) → says ≡ refusal n → taken_by (take room) next says after ≡ []
gave_not room next says n after e = rw e

-- every call keeps what is known
pub step : (s slot : ℕ) (kept : Kept) (h : List Event) (call : Call) → At s slot kept h → in_width call ≡ true
    → At s slot (step_of kept call).kept (h ++ ((step_of kept call).event ∷ []))
step s slot kept h (accept number payload) at wide =
    let r = kept.state in
    let store = kept.store in
    let sound = at.known.sound in
    let e = (step_of kept (accept number payload)).event in
    let width = ltb-true number.0 (2 ^ 32) wide in
    by_said (accept_of r number payload store).says
    (λ n q.
    let k = accept_nothing r number payload store n q in
    same s slot h e kept (step_of kept (accept number payload)).kept at k.0 k.1 (brought_not number payload _ n q) refl (accept_fair r number payload store sound))
    (λ given q.
    let c = accept_changes r number payload store given q sound in
    grown_accept s slot h e (step_of kept (accept number payload)).kept (record { number = number.0; bytes = payload }) (brought number payload _ given q) refl
    (entered s slot r (accept_of r number payload store).state store (accept_of r number payload store).lent (accepted_in h) (taken_in h) at.known
    (accept_sound r number payload store sound (omega arith)) (accept_slot r number payload store) (accept_start r number payload store)
    number.0 payload c.was c.now_held c.others (ap (λ (x : SeqNo). x.0) c.next_is) c.highest_is)
    at.fair (accept_fair r number payload store sound))
step s slot kept h (take output) at wide =
    let r = kept.state in
    let store = kept.store in
    let sound = at.known.sound in
    let e = (step_of kept (take output)).event in
    by_said (take_of r store output).says
    (λ n q.
    let k = take_nothing r store output n q in
    same s slot h e kept (step_of kept (take output)).kept at k.0 refl refl (gave_not output r.head.next.0 _ n _ q) (take_fair r store output sound))
    (λ given q.
    let c = take_changes r store output given q sound in
    grown_take s slot h e (step_of kept (take output)).kept (record { number = r.head.next.0; bytes = c.bytes }) refl
    (gave output r.head.next.0 _ given c.bytes output _ q c.counted c.output_is)
    (passed s slot r (take_of r store output).state store store (accepted_in h) (taken_in h) at.known
    (take_sound r store output sound) (take_slot r store output) (take_start r store output)
    c.bytes c.was c.others c.next_is (ap (λ (x : SeqNo). x.0) c.highest_is))
    at.fair (take_fair r store output sound))
step s slot kept h (acknowledge send recv output) at wide =
    let r = kept.state in
    let sound = at.known.sound in
    same s slot h (step_of kept (acknowledge send recv output)).event kept kept at refl refl refl refl
    (λ n q.
    let only = acknowledge_fair r send recv output sound.keeps (slot_fits_lem r kept.store sound) n q in
    (λ e. omega arith, λ e. omega arith))

-- so does every list of calls
pub steps : (s slot : ℕ) (kept : Kept) (h : List Event) (calls : List Call) → At s slot kept h → all_in_width calls ≡ true
    → At s slot (kept_after kept calls) (h ++ events_of kept calls)
steps s slot kept h [] at wide = rw (append-nil h) at
steps s slot kept h (call ∷ rest) at wide =
    let e = (step_of kept call).event in
    let after = (step_of kept call).kept in
    subst (λ (l : List Event). At s slot (kept_after after rest) l) (append_snoc h e (events_of after rest))
    (steps s slot after (h ++ (e ∷ [])) rest (step s slot kept h call at (and_left (in_width call) (all_in_width rest) wide)) (and_right (in_width call) (all_in_width rest) wide))

-- a call asked at the end of a run is the last of a run that is longer by it
pub one_more : (kept : Kept) (calls : List Call) (call : Call)
    → events_of kept (calls ++ (call ∷ [])) ≡ events_of kept calls ++ ((step_of (kept_after kept calls) call).event ∷ [])
one_more kept [] call = refl
one_more kept (c ∷ calls) call = ap (λ (l : List Event). (step_of kept c).event ∷ l) (one_more (step_of kept c).kept calls call)

-- and what is known holds at the start
pub start : (s : SeqNo) (slot : ℕ) (store : List ℕ) → (start_of s slot (length store)).says ≡ values [] → s.0 < 2 ^ 32 → At s.0 slot (begun s slot store) []
start s slot store done width =
    let next = start_next s slot store done in
    let highest = start_highest s slot store done in
    record {
      known = record {
        sound = start_sound s slot store done (omega arith);
        slot_is = start_slot s slot store done;
        start_is = start_start s slot store done;
        next_is = next ∙ sym (add-zero (s.0 + 1));
        highest_is = highest;
        stands = λ n.
            start_standing s slot store done n ∙ sym (rw (next, highest)
            (case
            (λ (a : n ≤ s.0). rw (le-leb n s.0 a, lt-ltb n (s.0 + 1) (omega arith)))
            (λ (a : n ≤ s.0 → ⊥). rw (lt-leb n s.0 (omega arith), le-ltb n (s.0 + 1) (omega arith)))
            (dec_le n s.0)));
        above = λ n bytes e. some_not_none e refl;
        taken_all = λ n a b. absurd (omega arith);
        taken_only = λ n bytes e. some_not_none e refl;
        ordered = λ k piece e. some_not_none e refl;
      };
      fair = refl;
    }
