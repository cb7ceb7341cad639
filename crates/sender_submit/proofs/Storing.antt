-- Storing one chunk after the other: what is left to do gives the same whole at each turn. Assumes nothing.
use Prim.Native.Nat.{ℕ, zero, suc, ◌+◌, ◌-◌, ◌/◌, ◌≤◌, ◌<◌, min}
use mathlib.Core.Path.{◌≡◌, refl, sym, ◌∙◌, ap}
use mathlib.Core.List.{List, [], ◌∷◌, ◌++◌, append-nil}
use native.Mathlib.Nat.{mul-le-mul_right, div-eq-sub-div, div-eq_of_lt}
use native.Mathlib.Decide.{ℕ_discrete, dec_le}
use native.Mathlib.Omega.{arith}
use borrow.Author.Tests.{eq-eqb, ne_eqb}
use lib.ListN.{length, set, take, drop, length-take, length-append, drop_of_length-le}
use lib.Seq.{take_all, take_at, drop_at}
use Rattle.std.proofs.lemmas.List.{nil_from_length}
use Rattle.terms.proofs.Laws.{case}
use Rattle.sender_state.specs.Table.{count_of, place_of}
use Rattle.sender_state.specs.declared.Sender.{Sender}
use Rattle.sender_state.specs.Numbers.{offset_of}
use Rattle.sender_submit_answer.specs.Answer.{chunks_of}
use Rattle.sender_submit.specs.Chunks.{laid_at, lowest_free, joined_by, Stored, stored_by}
use Rattle.sender_submit.specs.Steps.{Roomy}

-- FREE PLACES

-- where one of the first n is free, the lowest free place is among them
free_among : (marks : List ℕ) (n : ℕ) → 1 ≤ count_of 0 (take n marks) → place_of marks 0 < length (take n marks)
free_among [] zero h = absurd (omega arith)
free_among [] (suc n) h = absurd (omega arith)
free_among (m ∷ marks) zero h = absurd (omega arith)
free_among (m ∷ marks) (suc n) h =
    case
    (λ (e : m ≡ 0). rw (eq-eqb m 0 e) (omega arith))
    (λ (o : m ≡ 0 → ⊥).
    let k : 1 ≤ 0 + count_of 0 (take n marks) = rw (ne_eqb m 0 o) at h in
    rw (ne_eqb m 0 o) (omega (arith, free_among marks n (omega arith))))
    (ℕ_discrete m 0)

pub free_place : (marks : List ℕ) (n : ℕ) → 1 ≤ count_of 0 (take n marks) → (place_of marks 0 < n) × (place_of marks 0 < length marks)
free_place marks n h = let q = free_among marks n h in let e = length-take n marks in (omega arith, omega arith)

-- which is then one free place fewer
pub free_fewer : (marks : List ℕ) (n : ℕ) → 1 ≤ count_of 0 (take n marks) → count_of 0 (take n (set marks (place_of marks 0) 1)) + 1 ≡ count_of 0 (take n marks)
free_fewer [] zero h = absurd (omega arith)
free_fewer [] (suc n) h = absurd (omega arith)
free_fewer (m ∷ marks) zero h = absurd (omega arith)
free_fewer (m ∷ marks) (suc n) h =
    case
    (λ (e : m ≡ 0). rw (eq-eqb m 0 e) (omega arith))
    (λ (o : m ≡ 0 → ⊥).
    let k : 1 ≤ 0 + count_of 0 (take n marks) = rw (ne_eqb m 0 o) at h in
    rw (ne_eqb m 0 o, ne_eqb m 0 o) (omega (arith, free_fewer marks n (omega arith))))
    (ℕ_discrete m 0)

-- CHUNKS

-- the first of the chunks of a list, and the others
pub record Cut (chunk : ℕ) (all first others : List ℕ) : Type 0 where
  pub some : 1 ≤ chunk
  pub more : 0 < length all
  pub parts : all ≡ first ++ others
  pub size : length first ≡ min chunk (length all)

module _ {chunk : ℕ} {all first others : List ℕ} (c : Cut chunk all first others) where
  cut_long : length all ≡ length first + length others
  cut_long = ap length c.parts ∙ length-append first others

  -- it is a whole one, or all
  whole_or_all : {P : Type 0} → (length first ≡ chunk → P) → (others ≡ [] → length all ≤ chunk → P) → P
  whole_or_all whole last =
      let e = cut_long in
      let k = c.size in
      case
      (λ (h : chunk ≤ length all). whole (omega arith))
      (λ (h : chunk ≤ length all → ⊥). last (nil_from_length others (omega arith)) (omega arith))
      (dec_le chunk (length all))

  cut_first : take chunk all ≡ first
  cut_first =
      whole_or_all
      (λ (e : length first ≡ chunk). rw c.parts (take_at first others chunk e))
      (λ (e : others ≡ []) (h : length all ≤ chunk). take_all chunk all h ∙ c.parts ∙ rw (e, append-nil))

  cut_others : drop chunk all ≡ others
  cut_others =
      whole_or_all
      (λ (e : length first ≡ chunk). rw c.parts (drop_at first others chunk e))
      (λ (e : others ≡ []) (h : length all ≤ chunk). rw e (drop_of_length-le all h))

  cut_count : chunks_of chunk (length all) ≡ suc (chunks_of chunk (length others))
  cut_count =
      let e = cut_long in
      let next : chunks_of chunk (length all) ≡ suc ((length all + (chunk - 1) - chunk) / chunk) = omega (arith, div-eq-sub-div {m = chunk} {n = length all + (chunk - 1)} (omega (arith, c.some)) (omega (arith, c.more))) in
      whole_or_all
      (λ (k : length first ≡ chunk).
      let h : length all + (chunk - 1) - chunk ≡ length others + (chunk - 1) = omega arith in
      rw h at next)
      (λ (k : others ≡ []) (h : length all ≤ chunk).
      let a : (length all + (chunk - 1) - chunk) / chunk ≡ 0 = div-eq_of_lt (omega (arith, c.some, c.more)) in
      let b : (0 + (chunk - 1)) / chunk ≡ 0 = div-eq_of_lt (omega (arith, c.some)) in
      rw k (omega arith))

-- ROOM

module _ {s : Sender} {packets store_length : ℕ} (room : Roomy s packets store_length) (some : 1 ≤ packets) where
  pub room_one : Roomy s 1 store_length
  room_one = record {
    chunk_most = room.chunk_most;
    count_most = room.count_most;
    store = room.store;
    free = omega (arith, room.free);
    numbered = omega (arith, room.numbered);
  }

  pub room_less : (size left : ℕ) → packets ≡ suc left → Roomy (joined_by s size) left store_length
  room_less size left e = let fewer = free_fewer s.marks s.count (omega (arith, room.free)) in
      record {
        chunk_most = room.chunk_most;
        count_most = room.count_most;
        store = room.store;
        free = omega (arith, room.free);
        numbered = omega (arith, room.numbered);
      }

-- the place for one packet lies within the table and the store; the first part shows the room, so that `grind` finds it
pub room_place : (s : Sender) (store_length : ℕ) → Roomy s 1 store_length
    → Roomy s 1 store_length × (lowest_free s < 192) × (offset_of s.chunk (lowest_free s) + (s.chunk + 1044) ≤ store_length)
room_place s store_length room =
    let p = free_place s.marks s.count room.free in
    let h : lowest_free s + 1 ≤ s.count = omega (arith, p.0) in
    (room, omega (arith, p.0, room.count_most), omega (arith, room.store, mul-le-mul_right (s.chunk + 1044) h))

-- THE LOOP

-- in the midst of storing: what is left to store of the whole
pub record Storing (packet : ℕ → List ℕ → List ℕ) (whole : Stored) (left : List ℕ) (s : Sender) (store : List ℕ) : Type 0 where
  pub some : 1 ≤ s.chunk
  pub room : Roomy s (chunks_of s.chunk (length left)) (length store)
  pub same : stored_by packet (chunks_of s.chunk (length left)) left s store ≡ whole

-- one chunk more
stored_more : (packet : ℕ → List ℕ → List ℕ) (count : ℕ) (bytes : List ℕ) (s : Sender) (store : List ℕ) (first others : List ℕ) → Cut s.chunk bytes first others
    → stored_by packet (suc count) bytes s store
    ≡ stored_by packet count others (joined_by s (length (packet s.next.0 first))) (laid_at s.chunk (lowest_free s) (packet s.next.0 first) store)
unfolding stored_by
stored_more packet count bytes s store first others c = rw (← cut_first c, ← cut_others c)

-- before the first
pub storing_start : (packet : ℕ → List ℕ → List ℕ) (s : Sender) (bytes store left : List ℕ) → left ≡ bytes → 1 ≤ s.chunk → Roomy s (chunks_of s.chunk (length bytes)) (length store)
    → Storing packet (stored_by packet (chunks_of s.chunk (length bytes)) bytes s store) left s store
storing_start packet s bytes store left is some room = rw is (record { some = some; room = room; same = refl })

module _ {packet : ℕ → List ℕ → List ℕ} {whole : Stored} {left : List ℕ} {s : Sender} {store : List ℕ} (i : Storing packet whole left s store) where
  module _ (first others : List ℕ) (more : 0 < length left) (parts : left ≡ first ++ others) (size : length first ≡ min s.chunk (length left)) where
    cut : Cut s.chunk left first others
    cut = record { some = i.some; more = more; parts = parts; size = size }

    pub storing_asks : (length first ≤ s.chunk) × Roomy s 1 (length store)
    storing_asks = (omega (arith, size), room_one i.room (omega (arith, cut_count cut)))

    pub storing_turn : (next : Sender) (after : List ℕ) → next ≡ joined_by s (length (packet s.next.0 first)) → after ≡ laid_at s.chunk (lowest_free s) (packet s.next.0 first) store
        → length after ≡ length store → Storing packet whole others next after
    storing_turn next after n a k =
        let count = cut_count cut in
        rw n
        record {
          some = i.some;
          room = rw k (room_less i.room (omega arith) (length (packet s.next.0 first)) (chunks_of s.chunk (length others)) count);
          same = rw a
              (sym (stored_more packet (chunks_of s.chunk (length others)) left s store first others cut)
              ∙ ap (λ (n : ℕ). stored_by packet n left s store) (sym count)
              ∙ i.same);
        }

  pub storing_end : length left ≡ 0 → record { state = s; store = store } ≡ whole
  unfolding stored_by
  storing_end none =
      let e : chunks_of s.chunk (length left) ≡ 0 = rw none (div-eq_of_lt (omega (arith, i.some))) in
      rw e at i.same
