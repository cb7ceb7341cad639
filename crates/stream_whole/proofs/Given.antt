-- What was submitted, joined, is the row of the chunks under the numbers that the sender gave, from its first one up to next. Assumes nothing.
use Prim.Native.Nat.{ℕ, ◌+◌, ◌-◌, ◌≤◌, ◌<◌}
use mathlib.Core.Path.{◌≡◌, refl, sym, ◌∙◌, ap}
use mathlib.Core.Bool.{true, ◌&&◌}
use mathlib.Core.List.{List, [], ◌∷◌, ◌++◌, append-nil, append_assoc}
use mathlib.Core.Option.{Option, none, some, or_else}
use native.Mathlib.Omega.{arith}
use borrow.Author.Tests.{le-leb, lt-leb, lt-ltb}
use lib.Dec.{leb, ltb}
use lib.ListN.{length}
use Rattle.terms.specs.declared.StreamId.{StreamId}
use Rattle.terms.specs.Ladder.{◌when◌else◌}
use Rattle.terms.specs.Answers.{values}
use Rattle.terms.proofs.Laws.{and_left}
use Rattle.receiver_state.specs.declared.Receiver.{Receiver}
use Rattle.receiver_calls.proofs.Laws.{by_said}
use Rattle.sender_send.specs.Send.{send_of}
use Rattle.sender_acks.specs.Acks.{acks_of}
use Rattle.sender_resend.specs.Resend.{resend_of}
use Rattle.sender_submit.specs.Submit.{submit_of}
use Rattle.sender_submit_answer.specs.Answer.{chunks_of}
use Rattle.sender_meaning.specs.Meaning.{Sound}
use Rattle.sender_meaning.specs.Steps.{chunk_at}
use Rattle.sender_meaning.proofs.Starts.{start_next}
use Rattle.sender_meaning.proofs.Submitting.{submit_refused, submit_done, submit_stores, submit_chunks}
use Rattle.sender_meaning.proofs.Sends.{send_nothing, send_changes}
use Rattle.sender_meaning.proofs.Acks.{acks_nothing, acks_changes}
use Rattle.sender_meaning.proofs.Resends.{resend_nothing, resend_changes}
use Rattle.sender_runs.specs.Runs as S
use Rattle.sender_runs.specs.Remembers.{made}
use Rattle.sender_runs.proofs.Goes.{not_made}
use Rattle.sender_runs.proofs.Remembering.{remembers}
use Rattle.sender_runs.proofs.More.{or_else_none}
use Rattle.stream_joined.specs.Moves.{Ends, at_sender, at_receiver, Moves, nothing, ◌then◌, sender_end, sender_history, move_in_width, ids_fit, moves_in_width}
use Rattle.stream_joined.specs.Forgotten.{chunk_by, submitted_at}
use Rattle.stream_joined.proofs.Halves.{sender_run, sent_event, sent_more, sender_more, submitted_on}
use Rattle.stream_joined.proofs.AsMade.{Both, neither, both, made_reads}
use Rattle.stream_whole.specs.Whole.{bytes_by, bytes_in, submitted, sender_next}
use Rattle.stream_whole.proofs.Rows.{row, row_same, row_split, row_chunks}

abbrev pub or_empty : Option (List ℕ) → List ℕ
or_empty none = []
or_empty (some bytes) = bytes

-- the bytes under a number
abbrev pub chunk_of : Ends → Moves → ℕ → List ℕ
chunk_of ends moves n = or_empty (submitted_at ends moves n)

none_then : (o : Option (List ℕ)) → or_else none o ≡ o
unfolding or_else
none_then o = refl

-- only numbers from the first up to next have bytes
in_range : (ends : Ends) (moves : Moves) (n : ℕ) (bytes : List ℕ) (p b : Option (List ℕ)) → made (sender_run ends moves) n ≡ p → b ≡ some bytes → Both n p b
    → (ends.first.0 ≤ n) × (n < sender_next ends moves)
in_range ends moves n bytes p b e f (neither z w) = not_made f w
in_range ends moves n bytes p b e f (both q c z w r) = (remembers (sender_run ends moves)).made_range n q (e ∙ z)

pub submitted_range : (ends : Ends) (moves : Moves) → moves_in_width moves ≡ true → (n : ℕ) (bytes : List ℕ) → submitted_at ends moves n ≡ some bytes
    → (ends.first.0 ≤ n) × (n < sender_next ends moves)
submitted_range ends moves wide n bytes e = in_range ends moves n bytes _ _ refl e (made_reads ends moves wide n)

above_none : (ends : Ends) (moves : Moves) → moves_in_width moves ≡ true → (n : ℕ) → sender_next ends moves ≤ n → submitted_at ends moves n ≡ none
above_none ends moves wide n h = go (submitted_at ends moves n) refl
  where
    go : (o : Option (List ℕ)) → submitted_at ends moves n ≡ o → o ≡ none
    go none e = refl
    go (some bytes) e = absurd (omega (arith, (submitted_range ends moves wide n bytes e).1))

-- ONE CALL

module _ (chunk : ℕ) (kept : S.Kept) where
  -- the bytes that a call puts under a number
  abbrev pub new_at : S.Call → ℕ → Option (List ℕ)
  new_at call n = let e = (S.step_of kept call).event in chunk_by chunk n e.asked e.next e.answered

  -- what a call adds: so many numbers from next on, and under them its bytes
  record Adds (call : S.Call) : Type 0 where
    more : ℕ
    next_is : (S.step_of kept call).kept.state.next.0 ≡ kept.state.next.0 + more
    old_same : (n : ℕ) → n < kept.state.next.0 → new_at call n ≡ none
    new_are : row (λ n. or_empty (new_at call n)) kept.state.next.0 more ≡ bytes_by (S.step_of kept call).event.asked (S.step_of kept call).event.answered

  nothing_added : (call : S.Call) → (S.step_of kept call).kept.state.next.0 ≡ kept.state.next.0 → ((n : ℕ) → new_at call n ≡ none)
      → bytes_by (S.step_of kept call).event.asked (S.step_of kept call).event.answered ≡ [] → Adds call
  nothing_added call e f g = record { more = 0; next_is = omega (arith, e); old_same = λ n h. f n; new_are = sym g }

  module _ (sound : Sound kept.state kept.store) (is : kept.state.chunk ≡ chunk) where
    submit_adds : (r : Receiver) (to from : StreamId) (bytes : List ℕ) → Adds (S.submit r to from bytes)
    submit_adds r to from bytes =
        let s = kept.state in
        let store = kept.store in
        by_said (submit_of s r to from bytes store).says
        (λ why q.
        let k = submit_refused s r to from bytes store why q in
        nothing_added (S.submit r to from bytes) (rw k.0) (λ n. rw q) (rw q))
        (λ given q.
        let count = chunks_of s.chunk (length bytes) in
        let p : (submit_of s r to from bytes store).says ≡ values (count ∷ []) = q ∙ ap values (submit_done s r to from bytes store given q).gives in
        record {
          more = count;
          next_is = (submit_stores s r to from bytes store count p sound).next_is;
          old_same = λ n h. rw (p, lt-leb s.next.0 n h);
          new_are = rw p
              (row_chunks (λ n. or_empty (some (chunk_at chunk (n - s.next.0) bytes) when leb s.next.0 n && ltb n (s.next.0 + count) else none)) s.chunk s.next.0 0 count bytes
              (λ i h.
              let place : s.next.0 + i - s.next.0 ≡ 0 + i = omega arith in
              rw (le-leb s.next.0 (s.next.0 + i) (omega arith), lt-ltb (s.next.0 + i) (s.next.0 + count) (omega arith), place)
              (ap (λ (c : ℕ). chunk_at c (0 + i) bytes) (sym is)))
              ∙ submit_chunks s r to from bytes store count p);
        })

    adds : (call : S.Call) → Adds call
    adds (S.submit r to from bytes) = submit_adds r to from bytes
    adds (S.send clock output) =
        nothing_added (S.send clock output)
        (by_said (send_of kept.state clock kept.store output).says
        (λ why q. rw (send_nothing kept.state clock kept.store output why q).0)
        (λ given q. rw (send_changes kept.state clock kept.store output given q sound).next_is))
        (λ n. refl) refl
    adds (S.acks through nacks clock) =
        nothing_added (S.acks through nacks clock)
        (by_said (acks_of kept.state through nacks clock).says
        (λ why q. rw (acks_nothing kept.state through nacks clock why q))
        (λ given q. rw (acks_changes kept.state through nacks clock kept.store sound given q).next_is))
        (λ n. refl) refl
    adds (S.resend clock path) =
        nothing_added (S.resend clock path)
        (by_said (resend_of kept.state clock path).says
        (λ why q. rw (resend_nothing kept.state clock path why q))
        (λ given q. rw (resend_changes kept.state clock path kept.store sound given q).next_is))
        (λ n. refl) refl
    adds (S.fetch rank output) = nothing_added (S.fetch rank output) refl (λ n. refl) refl

-- CALLS IN A ROW

bytes_more : (h : List S.Event) (e : S.Event) → bytes_in (h ++ (e ∷ [])) ≡ bytes_in h ++ bytes_by e.asked e.answered
bytes_more [] e = append-nil (bytes_by e.asked e.answered)
bytes_more (x ∷ h) e = rw (bytes_more h e) (sym (append_assoc (bytes_by x.asked x.answered) (bytes_in h) (bytes_by e.asked e.answered)))

module _ (ends : Ends) where
  added : (earlier : Moves) (call : S.Call) → Adds ends.chunk (sender_end ends earlier) call
  added earlier call = let known = remembers (sender_run ends earlier) in adds ends.chunk (sender_end ends earlier) known.sound known.chunk_is call

  next_more : (earlier : Moves) (call : S.Call) → sender_next ends (earlier then at_sender call) ≡ sender_next ends earlier + (added earlier call).more
  next_more earlier call = ap (λ (k : S.Kept). k.state.next.0) (sender_more ends earlier call) ∙ (added earlier call).next_is

  -- the sender's next never falls below its first number
  pub next_least : (moves : Moves) → ends.first.0 ≤ sender_next ends moves
  next_least nothing = omega (arith, start_next ends.first ends.chunk ends.count ends.send_store ends.sender_started)
  next_least (earlier then at_receiver call) = next_least earlier
  next_least (earlier then at_sender call) = omega (arith, next_least earlier, next_more earlier call)

  pub given_row : (moves : Moves) → moves_in_width moves ≡ true → submitted ends moves ≡ row (chunk_of ends moves) ends.first.0 (sender_next ends moves - ends.first.0)
  given_row nothing wide =
      let z : sender_next ends nothing - ends.first.0 ≡ 0 = omega (arith, start_next ends.first ends.chunk ends.count ends.send_store ends.sender_started) in
      rw z
  given_row (earlier then at_receiver call) wide = given_row earlier (and_left (moves_in_width earlier) (move_in_width (at_receiver call)) wide)
  given_row (earlier then at_sender call) wide =
      let w = and_left (moves_in_width earlier) (ids_fit call) wide in
      let first = ends.first.0 in
      let next = sender_next ends earlier in
      let a = added earlier call in
      let new = new_at ends.chunk (sender_end ends earlier) call in
      let long : sender_next ends (earlier then at_sender call) - first ≡ (next - first) + a.more = omega (arith, next_more earlier call, next_least earlier) in
      let at : first + (next - first) ≡ next = omega (arith, next_least earlier) in
      let now = chunk_of ends (earlier then at_sender call) in
      let olds : row now first (next - first) ≡ row (chunk_of ends earlier) first (next - first) =
      row_same now (chunk_of ends earlier) first (next - first)
      (λ n _ h.
      ap or_empty
      (submitted_on ends earlier call n ∙ ap (or_else (submitted_at ends earlier n)) (a.old_same n (omega (arith, next_least earlier))) ∙ or_else_none (submitted_at ends earlier n))) in
      let news : row now next a.more ≡ row (λ n. or_empty (new n)) next a.more =
      row_same now (λ n. or_empty (new n)) next a.more
      (λ n h _.
      ap or_empty (submitted_on ends earlier call n ∙ ap (λ (o : Option (List ℕ)). or_else o (new n)) (above_none ends earlier w n h) ∙ none_then (new n))) in
      let e = sent_event ends earlier call in
      ap bytes_in (sent_more ends earlier call) ∙ bytes_more (sender_history ends earlier) e
      ∙ sym
      (row_split now first (next - first) a.more (sender_next ends (earlier then at_sender call) - first) long
      ∙ rw at (rw (olds, news, a.new_are) (ap (λ (l : List ℕ). l ++ bytes_by e.asked e.answered) (sym (given_row earlier w)))))
