-- What one call makes of the bytes at hand: a submit adds its own, acks take away what they name in flight, and every other call leaves their count. Each is told number by
-- number, by the calls' laws alone. Assumes nothing.
use Prim.Native.Nat.{ℕ, ◌+◌, ◌-◌, ◌≤◌, ◌<◌, ◌^◌}
use mathlib.Core.Path.{◌≡◌, refl, sym, ◌∙◌, ap}
use mathlib.Core.Bool.{Bool, true}
use mathlib.Core.List.{List, [], ◌∷◌}
use native.Mathlib.Omega.{arith}
use borrow.Author.Tests.{lt-leb, ltb-true}
use lib.Dec.{ltb, eqb}
use lib.ListN.{length}
use Rattle.terms.specs.declared.StreamId.{StreamId}
use Rattle.terms.specs.Ladder.{◌when◌else◌}
use Rattle.terms.specs.Answers.{values}
use Rattle.terms.proofs.Laws.{and_left, and_right}
use Rattle.receiver_state.specs.declared.Receiver.{Receiver}
use Rattle.receiver_calls.proofs.Laws.{by_said}
use Rattle.sender_send.specs.Send.{send_of}
use Rattle.sender_acks.specs.Acks.{acks_of}
use Rattle.sender_resend.specs.Resend.{resend_of}
use Rattle.sender_submit.specs.Submit.{submit_of}
use Rattle.sender_submit_answer.specs.Answer.{chunks_of}
use Rattle.sender_meaning.specs.Meaning.{Standing, unmade, waits, flies, gone, Sound}
use Rattle.sender_meaning.specs.Steps.{sent_as, is_named, acked_as, resent_as, goes_again, chunk_at}
use Rattle.sender_meaning.proofs.Counts.{by_bool}
use Rattle.sender_meaning.proofs.Submitting.{submit_refused, submit_done, submit_stores, submit_chunks}
use Rattle.sender_meaning.proofs.SubmittingReads.{submit_waits, submit_reads}
use Rattle.sender_meaning.proofs.Sends.{send_nothing, send_changes}
use Rattle.sender_meaning.proofs.Acks.{acks_nothing, acks_changes}
use Rattle.sender_meaning.proofs.Resends.{resend_nothing, resend_changes}
use Rattle.sender_runs.specs.Runs.{Call, submit, send, acks, resend, fetch, Kept, step_of}
use Rattle.stream_joined.specs.Moves.{ids_fit}
use Rattle.stream_counted.specs.Counted.{total, waiting_in, flying_in, standing_in, bytes_waiting, bytes_in_flight, submitted_by, acknowledged_by}
use Rattle.stream_counted.proofs.Sums.{total_same, total_both, total_split, total_chunks}

-- the bytes of a number that waits or flies
abbrev pub at_hand : Standing → ℕ
at_hand x = waiting_in x + flying_in x

abbrev pub bytes_at_hand : Kept → ℕ
bytes_at_hand kept = total (λ n. at_hand (standing_in kept n)) 0 kept.state.next.0

pub at_hand_is : (kept : Kept) → bytes_at_hand kept ≡ bytes_waiting kept + bytes_in_flight kept
at_hand_is kept = total_both (λ n. waiting_in (standing_in kept n)) (λ n. flying_in (standing_in kept n)) 0 kept.state.next.0

-- NUMBER BY NUMBER

sent_same : (told clock n : ℕ) (x : Standing) → at_hand (sent_as told clock n x) ≡ at_hand x
sent_same told clock n unmade = refl
sent_same told clock n (waits packet) = by_bool (eqb n told) (λ t. rw t (omega arith)) (λ f. rw f)
sent_same told clock n (flies packet sent) = refl
sent_same told clock n gone = refl

resent_same : (again : ℕ → Bool) (clock n : ℕ) (x : Standing) → at_hand (resent_as again clock n x) ≡ at_hand x
resent_same again clock n unmade = refl
resent_same again clock n (waits packet) = refl
resent_same again clock n (flies packet sent) = by_bool (again n) (λ t. rw t) (λ f. rw f)
resent_same again clock n gone = refl

acked_less : (through : ℕ) (nacks : List ℕ) (n : ℕ) (x : Standing) → at_hand x ≡ at_hand (acked_as through nacks n x) + (flying_in x when is_named through nacks n else 0)
acked_less through nacks n unmade = by_bool (is_named through nacks n) (λ t. rw t) (λ f. rw f)
acked_less through nacks n (waits packet) = by_bool (is_named through nacks n) (λ t. rw t (omega arith)) (λ f. rw f (omega arith))
acked_less through nacks n (flies packet sent) = by_bool (is_named through nacks n) (λ t. rw t) (λ f. rw f (omega arith))
acked_less through nacks n gone = by_bool (is_named through nacks n) (λ t. rw t) (λ f. rw f)

-- CALL BY CALL

-- what was at hand and came in is at hand or went out
abbrev pub AddsUp : Kept → Call → Type 0
AddsUp kept call = bytes_at_hand kept + submitted_by call (step_of kept call).event.answered
    ≡ bytes_at_hand (step_of kept call).kept + acknowledged_by kept call (step_of kept call).event.answered

module _ (kept : Kept) (sound : Sound kept.state kept.store) where
  -- a submit
  module _ (r : Receiver) (to from : StreamId) (bytes : List ℕ) (fits : ids_fit (submit r to from bytes) ≡ true) (count : ℕ)
      (done : (submit_of kept.state r to from bytes kept.store).says ≡ values (count ∷ [])) where
    abbrev after : Kept
    after = (step_of kept (submit r to from bytes)).kept

    before_same : (n : ℕ) → 0 ≤ n → n < 0 + kept.state.next.0 → at_hand (standing_in after n) ≡ at_hand (standing_in kept n)
    before_same n _ h =
        rw ((submit_stores kept.state r to from bytes kept.store count done sound).means n, lt-leb kept.state.next.0 n (omega arith))

    new_waits : (i : ℕ) → i < count → at_hand (standing_in after (kept.state.next.0 + i)) ≡ length (chunk_at kept.state.chunk (0 + i) bytes)
    new_waits i h =
        let s = kept.state in
        let n = s.next.0 + i in
        let w = submit_waits s r to from bytes kept.store count done sound n (omega arith) (omega arith) in
        let reads = submit_reads s r to from bytes kept.store count done sound n (omega arith) (omega arith)
        (ltb-true to.0 (2 ^ 32) (and_left (ltb to.0 (2 ^ 32)) (ltb from.0 (2 ^ 32)) fits))
        (ltb-true from.0 (2 ^ 32) (and_right (ltb to.0 (2 ^ 32)) (ltb from.0 (2 ^ 32)) fits)) in
        let place : n - s.next.0 ≡ 0 + i = omega arith in
        let long : at_hand (standing_in after n) ≡ length (chunk_at s.chunk (n - s.next.0) bytes) = rw w (omega (arith, ap length reads.payload_read)) in
        long ∙ ap (λ (k : ℕ). length (chunk_at s.chunk k bytes)) place

    submit_adds : bytes_at_hand kept + length bytes ≡ bytes_at_hand after
    submit_adds =
        let s = kept.state in
        let st = submit_stores s r to from bytes kept.store count done sound in
        let split = total_split (λ n. at_hand (standing_in after n)) 0 s.next.0 count after.state.next.0 st.next_is in
        let old = total_same (λ n. at_hand (standing_in after n)) (λ n. at_hand (standing_in kept n)) 0 s.next.0 before_same in
        let new = total_chunks (λ n. at_hand (standing_in after n)) s.chunk s.next.0 0 count bytes new_waits in
        let all = ap length (submit_chunks s r to from bytes kept.store count done) in
        let at : 0 + s.next.0 ≡ s.next.0 = omega arith in
        let split' = rw at at split in
        omega (arith, split', old, new, all)

  -- every call
  pub adds_up : (call : Call) → ids_fit call ≡ true → AddsUp kept call
  adds_up (submit r to from bytes) fits =
      let s = kept.state in
      let store = kept.store in
      by_said (submit_of s r to from bytes store).says
      (λ why q. let k = submit_refused s r to from bytes store why q in rw (q, k.0, k.1))
      (λ given q.
      let p : (submit_of s r to from bytes store).says ≡ values (chunks_of s.chunk (length bytes) ∷ []) = q ∙ ap values (submit_done s r to from bytes store given q).gives in
      rw q (omega (arith, submit_adds r to from bytes fits (chunks_of s.chunk (length bytes)) p)))
  adds_up (send clock output) fits =
      let s = kept.state in
      let store = kept.store in
      by_said (send_of s clock store output).says
      (λ why q. let k = send_nothing s clock store output why q in rw k.0)
      (λ given q.
      let c = send_changes s clock store output given q sound in
      let same = total_same (λ n. at_hand (standing_in (step_of kept (send clock output)).kept n)) (λ n. at_hand (standing_in kept n)) 0 s.next.0
      (λ n _ _. ap at_hand (c.now_is n) ∙ sent_same c.told clock n (standing_in kept n)) in
      rw c.next_is (omega (arith, same)))
  adds_up (acks through nacks clock) fits =
      let s = kept.state in
      let store = kept.store in
      by_said (acks_of s through nacks clock).says
      (λ why q. let k = acks_nothing s through nacks clock why q in rw (q, k))
      (λ given q.
      let c = acks_changes s through nacks clock store sound given q in
      let now : ℕ → ℕ = λ n. at_hand (standing_in (step_of kept (acks through nacks clock)).kept n) in
      let went : ℕ → ℕ = λ n. flying_in (standing_in kept n) when is_named through nacks n else 0 in
      let same = total_same (λ n. at_hand (standing_in kept n)) (λ n. now n + went n) 0 s.next.0
      (λ n _ _. acked_less through nacks n (standing_in kept n) ∙ ap (λ (x : Standing). at_hand x + went n) (sym (c.now_is n))) in
      rw (q, c.next_is) (omega (arith, same, total_both now went 0 s.next.0)))
  adds_up (resend clock path) fits =
      let s = kept.state in
      let store = kept.store in
      by_said (resend_of s clock path).says
      (λ why q. let k = resend_nothing s clock path why q in rw k)
      (λ given q.
      let c = resend_changes s clock path store sound given q in
      let same = total_same (λ n. at_hand (standing_in (step_of kept (resend clock path)).kept n)) (λ n. at_hand (standing_in kept n)) 0 s.next.0
      (λ n _ _. ap at_hand (c.now_is n) ∙ resent_same (goes_again s clock path) clock n (standing_in kept n)) in
      rw c.next_is (omega (arith, same)))
  adds_up (fetch rank output) fits = refl
