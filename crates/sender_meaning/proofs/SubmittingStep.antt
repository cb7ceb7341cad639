-- One packet more: it stands in the lowest free place, waiting under the next number, and every other number is as it was, since no byte
-- of another place is touched. Assumes nothing.
use Prim.Native.Nat.{ℕ, ◌+◌, ◌≤◌, ◌<◌}
use mathlib.Core.Path.{◌≡◌, sym, ◌∙◌, ap}
use mathlib.Core.List.{List}
use native.Mathlib.Nat.{mul-le-mul_right}
use native.Mathlib.Decide.{ℕ_discrete, dec_lt}
use native.Mathlib.Omega.{arith}
use borrow.Author.Tests.{le-leb, lt-leb}
use lib.ListN.{length, get_or, length-set}
use Rattle.terms.proofs.Laws.{case}
use Rattle.receiver_calls.proofs.Standings.{part_same, laid_length, laid_here, laid_before, laid_after}
use Rattle.sender_state.specs.Table.{◌!◌, place_of}
use Rattle.sender_state.specs.declared.Sender.{Sender}
use Rattle.sender_state.proofs.Facts.{rules_of_lem, sized}
use Rattle.sender_state.specs.Numbers.{size_of, offset_of, stored_packet}
use Rattle.sender_state.proofs.Runs.{beyond}
use Rattle.sender_state.proofs.Search.{place_is}
use Rattle.sender_submit_answer.specs.Answer.{free_of}
use Rattle.sender_submit.specs.Chunks.{lowest_free}
use Rattle.sender_submit.proofs.Storing.{free_fewer}
use Rattle.sender_meaning.specs.Meaning.{waits, gone, mark_of, sent_of, standing, Sound}
use Rattle.sender_meaning.proofs.Stands.{facts, nowhere_gone}
use Rattle.sender_meaning.proofs.SubmittingTables.{place_other, place_new}
use Rattle.sender_meaning.proofs.SubmittingRules.{Room, grown, laid, Spot, spot, joined_ruled}

-- no packet has the number 0
pub zero_gone : (s : Sender) (store : List ℕ) → Sound s store → standing s store 0 ≡ gone
zero_gone s store sound =
    let r = facts s store sound in
    nowhere_gone s store sound 0 r.next_some (λ i h o e. omega (arith, r.some i (omega (arith, sound.marks_long)) o))

-- two bounds of places make two bounds of bytes
places_apart : (chunk p q : ℕ) → p < q → offset_of chunk p + (chunk + 1044) ≤ offset_of chunk q
places_apart chunk p q h = omega (arith, mul-le-mul_right (chunk + 1044) h)

module _ (s : Sender) (store : List ℕ) (sound : Sound s store) (packet : List ℕ) (room : Room s packet) where
  here : Spot s packet
  here = spot s store sound packet room.free

  -- the packet lies within its place, and the place within the store
  within : offset_of s.chunk (lowest_free s) + length packet ≤ length store
  within =
      let below = here.below in
      omega (arith, places_apart s.chunk (lowest_free s) s.count below, (sized s.chunk s.count (length store) sound.fits).store, room.short)

  pub laid_long : length (laid s packet store) ≡ length store
  laid_long = laid_length store (offset_of s.chunk (lowest_free s)) packet within

  -- The step keeps what makes a state and its store belong together.
  pub joined_sound : Sound (grown s packet) (laid s packet store)
  joined_sound = record {
    numbers_long = simp length-set sound.numbers_long;
    lengths_long = simp length-set sound.lengths_long;
    sent_long = sound.sent_long;
    resent_long = sound.resent_long;
    marks_long = simp length-set sound.marks_long;
    keeps = rules_of_lem (grown s packet) (joined_ruled s store sound packet room);
    fits = rw laid_long sound.fits;
    width = omega (arith, room.usable);
  }

  -- one free place less
  pub free_less : free_of s ≡ free_of (grown s packet) + 1
  free_less = sym (free_fewer s.marks s.count room.free)

  -- the next number stood nowhere, and stands at the place that was filled
  pub place_next : place_of (grown s packet).numbers s.next.0 ≡ lowest_free s
  place_next =
      let r = facts s store sound in
      place_new s.numbers (lowest_free s) s.next.0 (omega (arith, here.inside, sound.numbers_long))
      (λ i h e.
      let h' : i < length s.marks = omega (arith, sound.numbers_long, sound.marks_long) in
      case
      (λ (z : s.marks ! i ≡ 0). omega (arith, r.no_number i h' z, r.next_some))
      (λ (n : s.marks ! i ≡ 0 → ⊥). omega (arith, r.low i h' n))
      (ℕ_discrete (s.marks ! i) 0))

  pub size_next : size_of (grown s packet) s.next.0 ≡ length packet
  size_next = here.lengths_here (place_of (grown s packet).numbers s.next.0) place_next

  -- every other but 0 stands where it stood, which is not the place that was filled
  module _ (n : ℕ) (some : n ≡ 0 → ⊥) (other : s.next.0 ≡ n → ⊥) where
    pub place_stays : place_of (grown s packet).numbers n ≡ place_of s.numbers n
    place_stays =
        place_other s.numbers (lowest_free s) s.next.0 n (λ e. some (sym e ∙ here.empty)) other

    elsewhere : place_of s.numbers n ≡ lowest_free s → ⊥
    elsewhere e =
        some (sym (place_is s.numbers n (omega (arith, e, here.inside, sound.numbers_long))) ∙ ap (λ (i : ℕ). s.numbers ! i) e ∙ here.empty)

    pub size_stays : size_of (grown s packet) n ≡ size_of s n
    size_stays = rw place_stays (here.lengths_there (place_of s.numbers n) elsewhere)

    -- no length is above what a place takes
    size_most : size_of s n ≤ s.chunk + 1044
    size_most =
        let r = facts s store sound in
        let p = place_of s.numbers n in
        case
        (λ (h : p < 192).
        let h' : p < length s.marks = omega (arith, sound.marks_long) in
        case
        (λ (z : s.marks ! p ≡ 0). omega (arith, r.no_length p h' z))
        (λ (m : s.marks ! p ≡ 0 → ⊥). r.short p h' m)
        (ℕ_discrete (s.marks ! p) 0))
        (λ (h : p < 192 → ⊥). omega (arith, beyond s.lengths p 0 (omega (arith, sound.lengths_long))))
        (dec_lt p 192)

    packet_stays : stored_packet (grown s packet) (laid s packet store) n ≡ stored_packet s store n
    packet_stays =
        let p = lowest_free s in
        let q = place_of s.numbers n in
        let at = offset_of s.chunk in
        rw (place_stays, here.lengths_there q elsewhere)
        (part_same (laid s packet store) store (at q) (at q + size_of s n) laid_long
        (λ k a b.
        case
        (λ (h : q < p). laid_before store (at p) packet within k (omega (arith, places_apart s.chunk q p h, size_most)))
        (λ (h : q < p → ⊥).
        let h' : p < q = omega (arith, elsewhere) in
        laid_after store (at p) packet within k (omega (arith, places_apart s.chunk p q h', room.short)))
        (dec_lt q p)))

    stands_below : n < s.next.0 → standing (grown s packet) (laid s packet store) n ≡ standing s store n
    unfolding standing
    stands_below h =
        let mark : mark_of (grown s packet) n ≡ mark_of s n = rw place_stays (here.marks_there (place_of s.numbers n) elsewhere) in
        let time : sent_of (grown s packet) n ≡ sent_of s n = rw place_stays in
        rw (lt-leb (s.next.0 + 1) n (omega arith), lt-leb s.next.0 n h, mark, time, packet_stays)

  -- The next number waits as the packet.
  pub next_waits : standing (grown s packet) (laid s packet store) s.next.0 ≡ waits packet
  unfolding standing
  next_waits =
      let mark = here.marks_here (place_of (grown s packet).numbers s.next.0) place_next in
      rw (lt-leb (s.next.0 + 1) s.next.0 (omega arith), mark, size_next, place_next)
      (ap waits (laid_here store (offset_of s.chunk (lowest_free s)) packet within))

  -- Every other number stands as it did.
  pub others_stand : (n : ℕ) → (s.next.0 ≡ n → ⊥) → standing (grown s packet) (laid s packet store) n ≡ standing s store n
  unfolding standing
  others_stand n other =
      case
      (λ (z : n ≡ 0).
      rw z (zero_gone (grown s packet) (laid s packet store) joined_sound ∙ sym (zero_gone s store sound)))
      (λ (some : n ≡ 0 → ⊥).
      case
      (λ (h : n < s.next.0). stands_below n some other h)
      (λ (h : n < s.next.0 → ⊥). rw (le-leb (s.next.0 + 1) n (omega (arith, other)), le-leb s.next.0 n (omega arith)))
      (dec_lt n s.next.0))
      (ℕ_discrete n 0)

  -- A byte of the store outside the packet's own is as it was.
  pub byte_stays : (k : ℕ) → (offset_of s.chunk (lowest_free s) ≤ k → k < offset_of s.chunk (lowest_free s) + length packet → ⊥)
      → get_or (laid s packet store) k 0 ≡ get_or store k 0
  byte_stays k out =
      let at = offset_of s.chunk (lowest_free s) in
      case
      (λ (h : k < at). laid_before store at packet within k h)
      (λ (h : k < at → ⊥).
      case
      (λ (g : k < at + length packet). absurd (out (omega arith) g))
      (λ (g : k < at + length packet → ⊥). laid_after store at packet within k (omega arith))
      (dec_lt k (at + length packet)))
      (dec_lt k at)
