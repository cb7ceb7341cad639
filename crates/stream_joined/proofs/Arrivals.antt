-- What arrives at the receiver is a number and the bytes submitted under it; so what was accepted first under a number are the bytes submitted under it. Assumes nothing.
use Prim.Native.Nat.{ℕ}
use mathlib.Core.Path.{◌≡◌, refl, sym, ◌∙◌, ap}
use mathlib.Core.Bool.{true}
use mathlib.Core.List.{List, [], ◌∷◌, ◌++◌, append-nil}
use mathlib.Core.List.{Memᴰ as IsOneOf}
use mathlib.Core.Option.{Option, some, or_else}
use borrow.Author.Tests.{eqb-true}
use lib.Dec.{eqb}
use Rattle.terms.specs.declared.SeqNo.{SeqNo}
use Rattle.terms.specs.Answers.{Said, refusal, values}
use Rattle.sender_meaning.proofs.Counts.{by_bool}
use Rattle.receiver_runs.specs.Runs as R
use Rattle.receiver_runs.specs.History.{accepted_by, accepted_in, first_of}
use Rattle.receiver_runs.proofs.Pieces.{by_first, some_not_none, first_stays, first_behind}
use Rattle.receiver_runs.proofs.More.{asked_is}
use Rattle.sender_runs.specs.Runs as S
use Rattle.sender_runs.specs.Remembers.{made}
use Rattle.sender_runs.proofs.Goes.{not_made}
use Rattle.stream_joined.specs.Moves.{Ends, at_sender, at_receiver, Moves, nothing, ◌then◌, sender_history, receiver_end, receiver_history, moves_in_width}
use Rattle.stream_joined.specs.Wire.{packets_in, Arrives, HandedToReceiver, Joined}
use Rattle.stream_joined.specs.Forgotten.{submitted_at}
use Rattle.stream_joined.proofs.Halves.{sender_run, earlier_joined, submitted_on, got_event, accepted_on}
use Rattle.stream_joined.proofs.AsMade.{ReadsAs, Both, neither, both, made_reads, written_as_made}

-- a packet that was written reads as a number and the bytes submitted under it
pub record Carries (ends : Ends) (moves : Moves) (packet : List ℕ) : Type 0 where
  pub number : ℕ
  pub bytes : List ℕ
  pub as_submitted : submitted_at ends moves number ≡ some bytes
  pub reads : ReadsAs number bytes packet

of_made : (ends : Ends) (moves : Moves) (n : ℕ) (packet : List ℕ) (p b : Option (List ℕ)) → made (sender_run ends moves) n ≡ some packet → made (sender_run ends moves) n ≡ p
    → submitted_at ends moves n ≡ b → Both n p b → Carries ends moves packet
of_made ends moves n packet p b e f g (neither z w) = not_made e (f ∙ z)
of_made ends moves n packet p b e f g (both q c z w r) =
    let same : q ≡ packet = cc in
    record { number = n; bytes = c; as_submitted = g ∙ w; reads = rw same at r }

module _ (ends : Ends) (moves : Moves) (wide : moves_in_width moves ≡ true) where
  pub carries : (packet : List ℕ) → IsOneOf packet (packets_in (sender_history ends moves)) → Carries ends moves packet
  carries packet w =
      let k = written_as_made ends moves packet w in
      of_made ends moves k.0 packet _ _ k.1 refl refl (made_reads ends moves wide k.0)

  -- what arrives was submitted
  pub arrived : (number : SeqNo) (payload : List ℕ) → Arrives (packets_in (sender_history ends moves)) number payload → submitted_at ends moves number.0 ≡ some payload
  arrived number payload a =
      let c = carries a.packet a.was_written in
      let own : c.number ≡ number.0 = sym c.reads.number_read ∙ ap (λ (x : SeqNo). x.0) (sym a.number_read) in
      let same : some c.bytes ≡ some payload = ap some (sym c.reads.payload_read ∙ sym a.payload_read) in
      rw own at c.as_submitted ∙ same

  -- and so was what a call at the receiver brings
  brought : (call : R.Call) (says : Said) → HandedToReceiver (packets_in (sender_history ends moves)) call → (n : ℕ) (bytes : List ℕ)
      → first_of n (accepted_by call says) ≡ some bytes → submitted_at ends moves n ≡ some bytes
  brought (R.accept number payload) (values given) a n bytes e =
      by_bool (eqb number.0 n)
      (λ t.
      let h : some payload ≡ some bytes = rw t at e in
      rw (eqb-true number.0 n t) at (arrived number payload a) ∙ h)
      (λ f. let h = rw f at e in some_not_none h refl)
  brought (R.accept number payload) (refusal why) a n bytes e = some_not_none e refl
  brought (R.take output) says a n bytes e = some_not_none e refl
  brought (R.acknowledge send recv output) says a n bytes e = some_not_none e refl

-- what was submitted stays submitted
pub submitted_stays : (ends : Ends) (earlier : Moves) (call : S.Call) (n : ℕ) (bytes : List ℕ) → submitted_at ends earlier n ≡ some bytes
    → submitted_at ends (earlier then at_sender call) n ≡ some bytes
unfolding or_else
submitted_stays ends earlier call n bytes e = submitted_on ends earlier call n ∙ rw e

-- what was accepted first under a number was submitted under it
pub accepted_submitted : (ends : Ends) (moves : Moves) → Joined ends moves → (n : ℕ) (bytes : List ℕ)
    → first_of n (accepted_in (receiver_history ends moves)) ≡ some bytes → submitted_at ends moves n ≡ some bytes
accepted_submitted ends nothing j n bytes e = some_not_none e refl
accepted_submitted ends (earlier then at_sender call) j n bytes e =
    submitted_stays ends earlier call n bytes (accepted_submitted ends earlier (earlier_joined ends earlier (at_sender call) j) n bytes e)
accepted_submitted ends (earlier then at_receiver call) j n bytes e =
    let before = earlier_joined ends earlier (at_receiver call) j in
    let had = accepted_in (receiver_history ends earlier) in
    let event = got_event ends earlier call in
    let new = accepted_in (event ∷ []) in
    let e' : first_of n (had ++ new) ≡ some bytes = ap (first_of n) (sym (accepted_on ends earlier call)) ∙ e in
    by_first (first_of n had)
    (λ z.
    let f : first_of n (accepted_by event.asked event.answered ++ []) ≡ some bytes = sym (first_behind n had new z) ∙ e' in
    brought ends earlier before.widths call event.answered j.truly.1 n bytes
    (rw (append-nil (accepted_by event.asked event.answered), asked_is (receiver_end ends earlier) call) at f))
    (λ b q.
    let same : some b ≡ some bytes = sym (first_stays n had new b q) ∙ e' in
    accepted_submitted ends earlier before n bytes (q ∙ same))
