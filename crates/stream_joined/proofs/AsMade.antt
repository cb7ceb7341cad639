-- What a sender writes is a packet as it was made: the front of each done send's and fetch's output is the packet that a submit made under some number,
-- and that packet reads as its number and the bytes submitted under it. Assumes nothing.
use Prim.Native.Nat.{ℕ, ◌+◌, ◌-◌, ◌^◌}
use mathlib.Core.Path.{◌≡◌, refl, sym, ◌∙◌, ap}
use mathlib.Core.Bool.{true, ◌&&◌}
use mathlib.Core.List.{List, [], ◌∷◌, ◌++◌}
use mathlib.Core.List.{Memᴰ as IsOneOf}
use mathlib.Core.List.Memᴰ
use mathlib.Core.Logic.{⊎_elim}
use mathlib.Core.Option.{Option, none, some, or_else}
use native.Mathlib.Nat.{sub-zero}
use borrow.Author.Tests.{leb-true, ltb-true}
use lib.Dec.{leb, ltb}
use lib.ListN.{length, drop, get_or}
use lib.Seq.{take_at}
use Rattle.terms.specs.declared.StreamId.{StreamId}
use Rattle.terms.specs.Lists.{part, ◌at_front_of◌}
use Rattle.terms.specs.Answers.{Said, refusal, values}
use Rattle.terms.proofs.Laws.{and_left, and_right}
use Rattle.packet_read.specs.Reading.{read_of, fields_of, payload_of}
use Rattle.receiver_state.specs.declared.Receiver.{Receiver}
use Rattle.receiver_calls.proofs.Laws.{by_said}
use Rattle.sender_submit.specs.Submit.{submit_of}
use Rattle.sender_submit.specs.Chunks.{data_packet}
use Rattle.sender_submit_answer.specs.Answer.{chunks_of}
use Rattle.sender_meaning.specs.Meaning.{Sound}
use Rattle.sender_meaning.specs.Steps.{chunk_at}
use Rattle.sender_meaning.proofs.Counts.{by_bool}
use Rattle.sender_meaning.proofs.Submitting.{submit_done}
use Rattle.sender_meaning.proofs.SubmittingReads.{submit_reads}
use Rattle.sender_runs.specs.Runs as S
use Rattle.sender_runs.specs.Remembers.{made_by, made_in, made}
use Rattle.sender_runs.proofs.Remembering.{remembers}
use Rattle.sender_runs.proofs.Leaving.{leaves_as_made}
use Rattle.sender_runs.proofs.More.{made_more}
use Rattle.stream_joined.specs.Moves.{Ends, at_sender, at_receiver, Moves, nothing, ◌then◌, sender_end, sender_history, ids_fit, move_in_width, moves_in_width}
use Rattle.stream_joined.specs.Wire.{packet_by, packets_in}
use Rattle.stream_joined.specs.Forgotten.{chunk_by, submitted_at}
use Rattle.stream_joined.proofs.Halves.{sender_run, made_on, submitted_on}

-- the packet reads as this number and these bytes
pub record ReadsAs (n : ℕ) (bytes packet : List ℕ) : Type 0 where
  pub readable : read_of packet ≡ values (fields_of packet)
  pub number_read : (fields_of packet).seq_nro.0 ≡ n
  pub payload_read : payload_of packet ≡ bytes

-- of a number, the packet made and the bytes submitted, or neither
pub data Both (n : ℕ) (packet bytes : Option (List ℕ)) : Type 0 where
  neither : packet ≡ none → bytes ≡ none → Both n packet bytes
  both : (p b : List ℕ) → packet ≡ some p → bytes ≡ some b → ReadsAs n b p → Both n packet bytes

both_then : (n : ℕ) (p p' b b' : Option (List ℕ)) → Both n p b → Both n p' b' → Both n (or_else p p') (or_else b b')
unfolding or_else
both_then n p p' b b' (neither e f) later = rw (e, f) later
both_then n p p' b b' (both q c e f r) later = both q c (rw e) (rw f) r

module _ (ends : Ends) (kept : S.Kept) (sound : Sound kept.state kept.store) (is : kept.state.chunk ≡ ends.chunk) where
  -- by a submit
  submitted : (r : Receiver) (to from : StreamId) (bytes : List ℕ) → ids_fit (S.submit r to from bytes) ≡ true → (n : ℕ)
      → let says = (submit_of kept.state r to from bytes kept.store).says in
      Both n (made_by ends.chunk n (S.submit r to from bytes) kept.state.next.0 says) (chunk_by ends.chunk n (S.submit r to from bytes) kept.state.next.0 says)
  submitted r to from bytes wide n =
      let s = kept.state in
      let store = kept.store in
      by_said (submit_of s r to from bytes store).says
      (λ why q. rw q (neither refl refl))
      (λ given q.
      let count = chunks_of s.chunk (length bytes) in
      let p : (submit_of s r to from bytes store).says ≡ values (count ∷ []) = q ∙ ap values (submit_done s r to from bytes store given q).gives in
      by_bool (leb s.next.0 n && ltb n (s.next.0 + count))
      (λ t.
      let reads = submit_reads s r to from bytes store count p sound n (leb-true _ _ (and_left (leb s.next.0 n) (ltb n (s.next.0 + count)) t))
      (ltb-true n (s.next.0 + count) (and_right (leb s.next.0 n) (ltb n (s.next.0 + count)) t))
      (ltb-true to.0 (2 ^ 32) (and_left (ltb to.0 (2 ^ 32)) (ltb from.0 (2 ^ 32)) wide))
      (ltb-true from.0 (2 ^ 32) (and_right (ltb to.0 (2 ^ 32)) (ltb from.0 (2 ^ 32)) wide)) in
      rw (p, t, ← is)
      (both (data_packet r to from n (chunk_at s.chunk (n - s.next.0) bytes)) (chunk_at s.chunk (n - s.next.0) bytes) refl refl
      (record { readable = reads.readable; number_read = reads.number_read; payload_read = reads.payload_read })))
      (λ f. rw (p, f) (neither refl refl)))

  -- and by any call
  called : (call : S.Call) → ids_fit call ≡ true → (n : ℕ) → let e = (S.step_of kept call).event in
      Both n (made_by ends.chunk n e.asked e.next e.answered) (chunk_by ends.chunk n e.asked e.next e.answered)
  called (S.submit r to from bytes) wide n = submitted r to from bytes wide n
  called (S.send clock output) wide n = neither refl refl
  called (S.acks through nacks clock) wide n = neither refl refl
  called (S.resend clock path) wide n = neither refl refl
  called (S.fetch rank output) wide n = neither refl refl

-- So at every point of a run: what was made under a number reads as the number and the bytes submitted under it.
pub made_reads : (ends : Ends) (moves : Moves) → moves_in_width moves ≡ true → (n : ℕ) → Both n (made (sender_run ends moves) n) (submitted_at ends moves n)
made_reads ends nothing wide n = neither refl refl
made_reads ends (earlier then at_receiver call) wide n = made_reads ends earlier (and_left (moves_in_width earlier) (move_in_width (at_receiver call)) wide) n
made_reads ends (earlier then at_sender call) wide n =
    let known = remembers (sender_run ends earlier) in
    rw (made_on ends earlier call n, submitted_on ends earlier call n)
    (both_then n _ _ _ _ (made_reads ends earlier (and_left (moves_in_width earlier) (ids_fit call) wide) n)
    (called ends (sender_end ends earlier) known.sound known.chunk_is call (and_right (moves_in_width earlier) (ids_fit call) wide) n))

-- WHAT LEAVES

-- the event that wrote a packet
record WrittenBy (h : List S.Event) (packet : List ℕ) : Type 0 where
  earlier : List S.Event
  event : S.Event
  later : List S.Event
  happens : h ≡ earlier ++ (event ∷ later)
  wrote : IsOneOf packet (packet_by event.asked event.answered event.output)

written_by : (h : List S.Event) (packet : List ℕ) → IsOneOf packet (packets_in h) → WrittenBy h packet
written_by [] packet w = absurd (Memᴰ.not-nil w)
written_by (e ∷ h) packet w =
    ⊎_elim
    (λ a. record { earlier = []; event = e; later = h; happens = refl; wrote = a })
    (λ b.
    let k = written_by h packet b in
    record {
      earlier = e ∷ k.earlier;
      event = k.event;
      later = k.later;
      happens = ap (λ (l : List S.Event). e ∷ l) k.happens;
      wrote = k.wrote;
    })
    (Memᴰ.append_cases (packet_by e.asked e.answered e.output) w)

-- the output's front, as long as the packet
front : (packet output out : List ℕ) (size : ℕ) → out ≡ packet at_front_of output → size ≡ length packet → part out 0 size ≡ packet
front packet output out size e f = rw (e, f, sub-zero (length packet)) (take_at packet (drop (length packet) output) (length packet) refl)

-- it was made earlier, by the law of what leaves
leaves : (run : S.Run) (earlier later : List S.Event) (e : S.Event) → S.history_of run ≡ earlier ++ (e ∷ later) → (call : S.Call) (says : Said) → e.asked ≡ call → e.answered ≡ says
    → (packet : List ℕ) → IsOneOf packet (packet_by call says e.output) → (n : ℕ) × (made_in run.chunk n earlier ≡ some packet)
leaves run earlier later e h (S.send clock room) (values given) a v packet w =
    let l = (leaves_as_made run).by_send earlier later e h clock room given a v in
    let m = l.as_made in
    let size : get_or given 1 0 ≡ length m.packet = ap (λ (g : List ℕ). get_or g 1 0) l.given_is ∙ m.size_is in
    let same : packet ≡ m.packet = Memᴰ.eq_of_singleton w ∙ front m.packet room e.output (get_or given 1 0) m.left_is size in
    (l.number, m.was_made ∙ ap some (sym same))
leaves run earlier later e h (S.fetch rank room) (values given) a v packet w =
    let l = (leaves_as_made run).by_fetch earlier later e h rank room given a v in
    let m = l.as_made in
    let size : get_or given 0 0 ≡ length m.packet = ap (λ (g : List ℕ). get_or g 0 0) l.given_is ∙ m.size_is in
    let same : packet ≡ m.packet = Memᴰ.eq_of_singleton w ∙ front m.packet room e.output (get_or given 0 0) m.left_is size in
    (l.number, m.was_made ∙ ap some (sym same))
leaves run earlier later e h (S.send clock room) (refusal why) a v packet w = absurd (Memᴰ.not-nil w)
leaves run earlier later e h (S.fetch rank room) (refusal why) a v packet w = absurd (Memᴰ.not-nil w)
leaves run earlier later e h (S.submit r to from bytes) says a v packet w = absurd (Memᴰ.not-nil w)
leaves run earlier later e h (S.acks through nacks clock) says a v packet w = absurd (Memᴰ.not-nil w)
leaves run earlier later e h (S.resend clock path) says a v packet w = absurd (Memᴰ.not-nil w)

pub written_as_made : (ends : Ends) (moves : Moves) (packet : List ℕ) → IsOneOf packet (packets_in (sender_history ends moves)) → (n : ℕ) × (made (sender_run ends moves) n ≡ some packet)
unfolding or_else
written_as_made ends moves packet w =
    let k = written_by (sender_history ends moves) packet w in
    let m = leaves (sender_run ends moves) k.earlier k.later k.event k.happens k.event.asked k.event.answered refl refl packet k.wrote in
    (m.0, ap (made_in ends.chunk m.0) k.happens ∙ made_more ends.chunk m.0 k.earlier (k.event ∷ k.later) ∙ rw m.1)
