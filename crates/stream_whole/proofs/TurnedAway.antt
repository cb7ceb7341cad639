-- No packet that arrives is turned away but where it came before or lies too far ahead: its payload is a chunk, which a slot holds, and its number is below the
-- sender's next. Assumes nothing.
use Prim.Native.Nat.{ℕ, ◌+◌, ◌-◌, ◌≤◌, ◌<◌}
use mathlib.Core.Path.{◌≡◌, refl, ◌∙◌, ap}
use mathlib.Core.Bool.{false, ◌&&◌}
use mathlib.Core.List.{List, [], ◌∷◌}
use mathlib.Core.List.{Memᴰ as IsOneOf}
use mathlib.Core.Logic.{◌⊎◌, inl, inr}
use mathlib.Core.Option.{Option, none, some, or_else}
use native.Mathlib.Decide.{dec_le, dec_lt}
use native.Mathlib.Omega.{arith}
use borrow.Author.Tests.{le-ltb, le-leb, lt-leb, ne_eqb}
use lib.Dec.{leb, ltb, eqb}
use lib.ListN.{length, get_or}
use Rattle.terms.specs.Answers.{Said, refusal, values}
use Rattle.terms.proofs.Laws.{case}
use Rattle.packet_read.specs.Reading.{fields_of, payload_of}
use Rattle.receiver_calls.specs.Meaning.{standing, missing, unseen}
use Rattle.receiver_calls.proofs.Laws.{accept_answer}
use Rattle.sender_meaning.specs.Steps.{chunk_at}
use Rattle.sender_meaning.proofs.Counts.{by_bool}
use Rattle.sender_meaning.proofs.SubmittingChunks.{chunk_most}
use Rattle.receiver_runs.proofs.Pieces.{by_first, some_not_none}
use Rattle.receiver_runs.proofs.Places.{next_of, highest_in, first, known}
use Rattle.sender_runs.specs.Runs as S
use Rattle.sender_runs.proofs.Remembering.{remembers}
use Rattle.stream_joined.specs.Moves.{Ends, Moves, receiver_end, sender_history}
use Rattle.stream_joined.specs.Wire.{packets_in, Joined}
use Rattle.stream_joined.specs.Forgotten.{chunk_by, chunk_in, Received}
use Rattle.stream_joined.proofs.Halves.{sender_run, receiver_run}
use Rattle.stream_joined.proofs.Arrivals.{carries}
use Rattle.stream_joined.proofs.Remembered.{came_received}
use Rattle.stream_whole.specs.Whole.{answer_to, NoneTurnedAway}
use Rattle.stream_whole.proofs.Given.{submitted_range}

-- no chunk is longer than the chunk size
chunk_short : (chunk n : ℕ) (call : S.Call) (next : ℕ) (says : Said) (bytes : List ℕ) → chunk_by chunk n call next says ≡ some bytes → length bytes ≤ chunk
chunk_short chunk n (S.submit r to from sent) next (values given) bytes e =
    by_bool (leb next n && ltb n (next + get_or given 0 0))
    (λ t.
    let f = rw t at e in
    let same : chunk_at chunk (n - next) sent ≡ bytes = cc in
    rw same at (chunk_most chunk (n - next) sent))
    (λ t. let f = rw t at e in some_not_none f refl)
chunk_short chunk n (S.submit r to from sent) next (refusal why) bytes e = some_not_none e refl
chunk_short chunk n (S.send clock output) next says bytes e = some_not_none e refl
chunk_short chunk n (S.acks through nacks clock) next says bytes e = some_not_none e refl
chunk_short chunk n (S.resend clock path) next says bytes e = some_not_none e refl
chunk_short chunk n (S.fetch rank output) next says bytes e = some_not_none e refl

either_short : (most : ℕ) (a b : Option (List ℕ)) (bytes : List ℕ) → ((x : List ℕ) → a ≡ some x → length x ≤ most) → ((x : List ℕ) → b ≡ some x → length x ≤ most)
    → or_else a b ≡ some bytes → length bytes ≤ most
unfolding or_else
either_short most none b bytes f g e = g bytes e
either_short most (some x) b bytes f g e = f bytes e

all_short : (chunk n : ℕ) (h : List S.Event) (bytes : List ℕ) → chunk_in chunk n h ≡ some bytes → length bytes ≤ chunk
all_short chunk n [] bytes e = some_not_none e refl
all_short chunk n (x ∷ h) bytes e =
    either_short chunk (chunk_by chunk n x.asked x.next x.answered) (chunk_in chunk n h) bytes
    (λ b q. chunk_short chunk n x.asked x.next x.answered b q) (λ b q. all_short chunk n h b q) e

module _ (ends : Ends) (moves : Moves) (j : Joined ends moves) (packet : List ℕ) (w : IsOneOf packet (packets_in (sender_history ends moves))) where
  abbrev number : ℕ
  number = (fields_of packet).seq_nro.0

  abbrev answer : Said
  answer = answer_to ends moves packet

  record Fits : Type 0 where
    low : ends.s.0 < number
    below : number < 4294967295
    short : length (payload_of packet) ≤ ends.slot

  fits : Fits
  fits =
      let a = carries ends moves j.widths packet w in
      let r = submitted_range ends moves j.widths a.number a.bytes a.as_submitted in
      let width = (remembers (sender_run ends moves)).sound.width in
      let own = a.reads.number_read in
      record {
        low = omega (arith, own, r.0, ends.one_less);
        below = omega (arith, own, r.1, width);
        short = omega (arith, ap length a.reads.payload_read, all_short ends.chunk a.number (sender_history ends moves) a.bytes a.as_submitted, ends.slot_holds);
      }

  counts : (answer ≡ values []) ⊎ (Received ends moves number ⊎ (answer ≡ refusal 14))
  counts =
      let run = receiver_run ends moves j.widths in
      let r = (receiver_end ends moves).state in
      let store = (receiver_end ends moves).store in
      let f = fits in
      case
      (λ (a : number < next_of run). let t = (known run).taken_all number f.low a in inr (inl (came_received ends moves j number f.low (t.0, t.2))))
      (λ (a : number < next_of run → ⊥).
      by_first (first run number)
      (λ z.
      let not_last : eqb number 4294967295 ≡ false = ne_eqb number 4294967295 (λ e. omega (arith, f.below)) in
      let room : ltb r.head.slot (length (payload_of packet)) ≡ false = le-ltb r.head.slot (length (payload_of packet)) (omega (arith, f.short, (known run).slot_is)) in
      let is = accept_answer r (fields_of packet).seq_nro (payload_of packet) store (known run).sound in
      let stands = (known run).stands number in
      let stands' = rw (le-ltb number (next_of run) (omega arith), z) at stands in
      case
      (λ (b : number ≤ highest_in run).
      let m : standing r store number ≡ missing = rw (le-leb number (highest_in run) b) at stands' in
      inl (is ∙ rw (not_last, m, room)))
      (λ (b : number ≤ highest_in run → ⊥).
      let u : standing r store number ≡ unseen = rw (lt-leb number (highest_in run) (omega arith)) at stands' in
      by_bool (leb 512 (number - r.head.next.0))
      (λ t. inr (inr (is ∙ rw (not_last, u, t))))
      (λ t. inl (is ∙ rw (not_last, u, t, room))))
      (dec_le number (highest_in run)))
      (λ bytes e. inr (inl (came_received ends moves j number f.low (bytes, e)))))
      (dec_lt number (next_of run))

pub none_turned_away : (ends : Ends) (moves : Moves) → Joined ends moves → NoneTurnedAway ends moves
none_turned_away ends moves j = record { reads = λ packet w. (carries ends moves j.widths packet w).reads.readable; counts = counts ends moves j }
