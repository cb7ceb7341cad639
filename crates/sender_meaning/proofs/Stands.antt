-- Where a number stands in a sound state: at one place of the table, or nowhere; and its standing from there. Assumes nothing.
use Prim.Native.Nat.{ℕ, ◌≤◌, ◌<◌}
use mathlib.Core.Path.{◌≡◌, refl, sym, ◌∙◌, ap}
use mathlib.Core.Bool.{true, ◌&&◌}
use mathlib.Core.List.{List}
use native.Mathlib.Decide.{ℕ_discrete, dec_le, dec_lt}
use native.Mathlib.Omega.{arith}
use borrow.Author.Tests.{le-leb, lt-leb, lt-ltb, le-ltb, eq-eqb, ne_eqb}
use lib.Dec.{ltb}
use lib.ListN.{length, length-take, length-drop}
use Rattle.terms.specs.Ladder.{◌when◌else◌}
use Rattle.terms.proofs.Laws.{case, and_left}
use Rattle.sender_state.specs.Table.{◌!◌, is_waiting, is_flying, count_of, place_of}
use Rattle.sender_state.specs.Rules.{counts_fit, sizes_fit}
use Rattle.sender_state.specs.declared.Sender.{Sender}
use Rattle.sender_state.proofs.Facts.{Ruled, ruled, packet_in_lem}
use Rattle.sender_state.specs.Numbers.{run, marked_with, waiting, in_flight, bytes_at, stored_packet}
use Rattle.sender_resend.specs.Resend.{is_in}
use Rattle.sender_state.proofs.Runs.{beyond}
use Rattle.sender_state.proofs.Search.{place_is, stored, tidy}
use Rattle.sender_meaning.specs.Meaning.{Standing, unmade, waits, flies, gone, mark_of, sent_of, standing, does_wait, does_fly, Sound}
use Rattle.sender_meaning.proofs.Counts.{by_bool, run_has, marked_count}

-- what stands at a place, by its mark
unfoldable pub standing_at : Sender → List ℕ → ℕ → Standing
standing_at s store i =
    waits (bytes_at s.chunk i (s.lengths ! i) store) when is_waiting (s.marks ! i) else
    flies (bytes_at s.chunk i (s.lengths ! i) store) (s.sent ! i) when is_flying (s.marks ! i) else
    gone

module _ (s : Sender) (store : List ℕ) (i : ℕ) where
  pub waits_at : s.marks ! i ≡ 1 → standing_at s store i ≡ waits (bytes_at s.chunk i (s.lengths ! i) store)
  unfolding standing_at
  waits_at e = simp (eq-eqb _ _ e)

  pub flies_at : s.marks ! i ≡ 2 → standing_at s store i ≡ flies (bytes_at s.chunk i (s.lengths ! i) store) (s.sent ! i)
  unfolding standing_at
  flies_at e = rw (e)

-- what a mark says of the standing
module _ (packet : List ℕ) (sent mark : ℕ) where
  pub told_waits : is_waiting mark ≡ does_wait (waits packet when is_waiting mark else flies packet sent when is_flying mark else gone)
  told_waits = by_bool (is_waiting mark) (λ t. rw t) (λ f. rw f (by_bool (is_flying mark) (λ t. rw t) (λ g. rw g)))

  pub told_flies : is_flying mark ≡ does_fly (waits packet when is_waiting mark else flies packet sent when is_flying mark else gone)
  told_flies =
      case
      (λ (e : mark ≡ 1). rw e)
      (λ (o : mark ≡ 1 → ⊥). rw (ne_eqb mark 1 o) (by_bool (is_flying mark) (λ t. rw t) (λ g. rw g)))
      (ℕ_discrete mark 1)

-- places with the same fields stand the same
pub at_same : (s t : Sender) (store : List ℕ) (i : ℕ) → t.chunk ≡ s.chunk → t.lengths ! i ≡ s.lengths ! i → t.sent ! i ≡ s.sent ! i
    → t.marks ! i ≡ s.marks ! i → standing_at t store i ≡ standing_at s store i
unfolding standing_at
at_same s t store i c l u m = rw (c, l, u, m)

-- no place has the number
abbrev pub Nowhere : Sender → ℕ → Type 0
Nowhere s n = (i : ℕ) → i < 192 → (s.marks ! i ≡ 0 → ⊥) → s.numbers ! i ≡ n → ⊥

-- from next on no packet was made
pub unmade_from : (s : Sender) (store : List ℕ) (n : ℕ) → s.next.0 ≤ n → standing s store n ≡ unmade
unfolding standing
unmade_from s store n a = simp (le-leb _ _ a)

module _ (s : Sender) (store : List ℕ) (sound : Sound s store) where
  pub facts : Ruled s
  facts = ruled s sound.keeps

  -- the sizes fit without the store
  pub counts_fit_lem : counts_fit s.chunk s.count ≡ true
  unfolding sizes_fit
  counts_fit_lem = and_left (counts_fit s.chunk s.count) _ sound.fits

  -- a stored number has one place
  pub own_place : (i : ℕ) → i < 192 → (s.marks ! i ≡ 0 → ⊥) → place_of s.numbers (s.numbers ! i) ≡ i
  own_place i h o =
      let some : 1 ≤ s.marks ! i = omega (arith, o) in
      stored s.numbers s.marks (s.marks ! i) s.next.0
      (tidy s sound.numbers_long sound.marks_long (omega (arith, sound.width)) facts (s.marks ! i) some) i h refl

  pub one_place : (i j : ℕ) → i < 192 → j < 192 → (s.marks ! i ≡ 0 → ⊥) → (s.marks ! j ≡ 0 → ⊥) → s.numbers ! i ≡ s.numbers ! j → i ≡ j
  one_place i j h k o u e = sym (own_place i h o) ∙ ap (place_of s.numbers) e ∙ own_place j k u

  -- where the place of a number has a mark, it is in the table and has the number
  pub marked_in : (n : ℕ) → (mark_of s n ≡ 0 → ⊥) → place_of s.numbers n < 192
  marked_in n o =
      case
      (λ (q : place_of s.numbers n < 192). q)
      (λ (q : place_of s.numbers n < 192 → ⊥). absurd (o (beyond s.marks (place_of s.numbers n) 0 (omega (arith, sound.marks_long)))))
      (dec_lt (place_of s.numbers n) 192)

  pub marked_is : (n : ℕ) → (mark_of s n ≡ 0 → ⊥) → s.numbers ! place_of s.numbers n ≡ n
  marked_is n o = place_is s.numbers n (omega (arith, sound.numbers_long, marked_in n o))

  -- a number lies from next on, stands nowhere, or stands at a place
  pub where_is : {C : Type 0} (n : ℕ) → (s.next.0 ≤ n → C) → (n < s.next.0 → Nowhere s n → C)
      → ((i : ℕ) → i < 192 → (s.marks ! i ≡ 0 → ⊥) → s.numbers ! i ≡ n → C) → C
  where_is n new nowhere placed =
      case new
      (λ (a : s.next.0 ≤ n → ⊥).
      case
      (λ (z : mark_of s n ≡ 0).
      nowhere (omega arith) (λ i h o e. o (sym (ap (λ (k : ℕ). s.marks ! k) (sym (ap (place_of s.numbers) e) ∙ own_place i h o)) ∙ z)))
      (λ (o : mark_of s n ≡ 0 → ⊥). placed (place_of s.numbers n) (marked_in n o) o (marked_is n o))
      (ℕ_discrete (mark_of s n) 0))
      (dec_le s.next.0 n)

  pub nowhere_gone : (n : ℕ) → n < s.next.0 → Nowhere s n → standing s store n ≡ gone
  unfolding standing
  nowhere_gone n a f =
      case
      (λ (z : mark_of s n ≡ 0). rw (lt-leb _ _ a, z))
      (λ (o : mark_of s n ≡ 0 → ⊥). absurd (f (place_of s.numbers n) (marked_in n o) o (marked_is n o)))
      (ℕ_discrete (mark_of s n) 0)

  pub stands_at : (i : ℕ) → i < 192 → (s.marks ! i ≡ 0 → ⊥) → standing s store (s.numbers ! i) ≡ standing_at s store i
  unfolding standing standing_at
  stands_at i h o = rw (lt-leb _ _ (facts.low i (omega (arith, sound.marks_long)) o), own_place i h o)

  pub flies_mark : (i : ℕ) → i < 192 → (s.marks ! i ≡ 0 → ⊥) → does_fly (standing s store (s.numbers ! i)) ≡ is_flying (s.marks ! i)
  unfolding standing_at
  flies_mark i h o = ap does_fly (stands_at i h o) ∙ sym (told_flies (bytes_at s.chunk i (s.lengths ! i) store) (s.sent ! i) (s.marks ! i))

  -- a packet is as long as its place says
  pub place_long : (i : ℕ) → i < 192 → (s.marks ! i ≡ 0 → ⊥) → length (bytes_at s.chunk i (s.lengths ! i) store) ≡ s.lengths ! i
  place_long i h o =
      let inside = packet_in_lem s sound.marks_long facts (length store) i sound.fits h o in
      simp (length-take, length-drop) (omega arith)

  -- as many numbers wait, and are in flight, as places are marked so
  marked : (wanted : ℕ) → 1 ≤ wanted → length (run (λ n. marked_with wanted s.marks (place_of s.numbers n)) 0 s.next.0) ≡ count_of wanted s.marks
  marked wanted some =
      let t = tidy s sound.numbers_long sound.marks_long (omega (arith, sound.width)) facts wanted some in
      let long = sound.marks_long in
      marked_count wanted s.next.0 some s.numbers s.marks (sound.numbers_long ∙ sym long)
      (λ i h e. t.low i (omega arith) e)
      (λ i j h k o e f. omega (arith, t.alone i j (omega arith) (omega arith) o f, t.some i (omega arith) e))

  pub waiting_count : length (waiting s) ≡ count_of 1 s.marks
  waiting_count = marked 1 (omega arith)

  pub in_flight_count : length (in_flight s) ≡ count_of 2 s.marks
  in_flight_count = marked 2 (omega arith)

-- the numbers that wait, and those in flight, are those whose standing says so
module _ (s : Sender) (store : List ℕ) (n : ℕ) where
  pub waits_told : (ltb n s.next.0 && is_waiting (mark_of s n)) ≡ does_wait (standing s store n)
  unfolding standing
  waits_told =
      case
      (λ (a : n < s.next.0). rw (lt-ltb _ _ a, lt-leb _ _ a) (told_waits (stored_packet s store n) (sent_of s n) (mark_of s n)))
      (λ (a : n < s.next.0 → ⊥). rw (le-ltb n s.next.0 (omega arith), le-leb s.next.0 n (omega arith)))
      (dec_lt n s.next.0)

  pub flies_told : (ltb n s.next.0 && is_flying (mark_of s n)) ≡ does_fly (standing s store n)
  unfolding standing
  flies_told =
      case
      (λ (a : n < s.next.0). rw (lt-ltb _ _ a, lt-leb _ _ a) (told_flies (stored_packet s store n) (sent_of s n) (mark_of s n)))
      (λ (a : n < s.next.0 → ⊥). rw (le-ltb n s.next.0 (omega arith), le-leb s.next.0 n (omega arith)))
      (dec_lt n s.next.0)

  pub waiting_is : is_in (waiting s) n ≡ does_wait (standing s store n)
  waiting_is = run_has (λ m. marked_with 1 s.marks (place_of s.numbers m)) s.next.0 n ∙ waits_told

  pub in_flight_is : is_in (in_flight s) n ≡ does_fly (standing s store n)
  in_flight_is = run_has (λ m. marked_with 2 s.marks (place_of s.numbers m)) s.next.0 n ∙ flies_told
