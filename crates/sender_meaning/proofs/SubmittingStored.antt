-- So many packets more, one after the other: each is one packet more, and what the first made stays while the others are stored.
-- Assumes nothing.
use Prim.Native.Nat.{ℕ, zero, suc, ◌+◌, ◌-◌, ◌≤◌, ◌<◌}
use mathlib.Core.Path.{◌≡◌, refl, sym, ◌∙◌, ap}
use mathlib.Core.Bool.{true, ◌||◌, true≢false}
use mathlib.Core.List.{List}
use native.Mathlib.Nat.{zero-mul}
use native.Mathlib.Decide.{ℕ_discrete, dec_lt}
use native.Mathlib.Omega.{arith}
use borrow.Author.Tests.{le-leb, lt-leb, lt-ltb, le-ltb}
use lib.Dec.{leb, ltb}
use lib.ListN.{length, take, drop, length-take}
use Rattle.terms.proofs.Laws.{case}
use Rattle.sender_state.specs.Table.{place_of}
use Rattle.sender_state.specs.declared.Sender.{Sender}
use Rattle.sender_state.specs.Numbers.{size_of, offset_of}
use Rattle.sender_submit.specs.Chunks.{lowest_free, Stored, stored_by}
use Rattle.sender_submit.specs.Steps.{Roomy}
use Rattle.sender_meaning.specs.Meaning.{Standing, waits, standing, Sound}
use Rattle.sender_meaning.specs.Steps.{submitted_as, is_outside}
use Rattle.sender_meaning.specs.Changes.{Stores}
use Rattle.sender_meaning.proofs.Stands.{facts}
use Rattle.sender_meaning.proofs.SubmittingRules.{Room, grown, laid}
use Rattle.sender_meaning.proofs.SubmittingStep.{laid_long, joined_sound, free_less, place_next, size_next, place_stays, size_stays, next_waits, others_stand, byte_stays}
use Rattle.sender_meaning.proofs.SubmittingChunks.{chunk_later}

-- each packet that is made of a chunk fits a place
pub record FitsPlaces (packet : ℕ → List ℕ → List ℕ) (chunk : ℕ) : Type 0 where
  pub long : (n : ℕ) (payload : List ℕ) → 22 ≤ length (packet n payload)
  pub short : (n : ℕ) (payload : List ℕ) → length payload ≤ chunk → length (packet n payload) ≤ chunk + 1044

-- a byte is outside a packet, by its place and length
outside : (at size k : ℕ) → (ltb k at || leb (at + size) k) ≡ true → at ≤ k → k < at + size → ⊥
outside at size k e a b = true≢false (sym e ∙ rw (le-ltb k at a, lt-leb (at + size) k b))

module _ (packet : ℕ → List ℕ → List ℕ) (chunk next left : ℕ) (bytes : List ℕ) (n : ℕ) where
  -- none
  means_none : (before : Standing) → before ≡ submitted_as packet chunk next 0 bytes n before
  means_none before =
      case
      (λ (h : n < next). rw (lt-leb next n h))
      (λ (h : n < next → ⊥). rw (le-leb next n (omega arith), le-ltb n (next + 0) (omega arith)))
      (dec_lt n next)

  -- the first, and then the others
  means_more : (before made : Standing) → (next ≡ n → made ≡ waits (packet next (take chunk bytes))) → ((next ≡ n → ⊥) → made ≡ before)
      → submitted_as packet chunk (next + 1) left (drop chunk bytes) n made ≡ submitted_as packet chunk next (suc left) bytes n before
  means_more before made first others =
      case
      (λ (e : next ≡ n).
      let z : n - next ≡ 0 = omega arith in
      rw (lt-leb (next + 1) n (omega arith), le-leb next n (omega arith), lt-ltb n (next + suc left) (omega arith), z, zero-mul, first e, e))
      (λ (o : next ≡ n → ⊥).
      case
      (λ (h : n < next). rw (lt-leb (next + 1) n (omega arith), lt-leb next n h, others o))
      (λ (h : n < next → ⊥).
      case
      (λ (g : n < next + suc left).
      let e : n - next ≡ suc (n - (next + 1)) = omega (arith, o) in
      rw (le-leb (next + 1) n (omega (arith, o)), le-leb next n (omega arith), lt-ltb n (next + suc left) g, lt-ltb n (next + 1 + left) (omega arith), e, chunk_later chunk (n - (next + 1)) bytes))
      (λ (g : n < next + suc left → ⊥).
      rw (le-leb (next + 1) n (omega (arith, o)), le-leb next n (omega arith), le-ltb n (next + suc left) (omega arith), le-ltb n (next + 1 + left) (omega arith), others o))
      (dec_lt n (next + suc left)))
      (dec_lt n next))
      (ℕ_discrete next n)

module _ (packet : ℕ → List ℕ → List ℕ) where
  stores_none : (bytes : List ℕ) (s : Sender) (store : List ℕ) → Sound s store → Stores packet 0 bytes s store (record { state = s; store = store })
  stores_none bytes s store sound = record {
    sound = sound;
    next_is = omega arith;
    chunk_is = refl;
    count_is = refl;
    window_is = refl;
    timing_is = refl;
    timer_is = refl;
    clock_is = refl;
    means = λ n. means_none packet s.chunk s.next.0 0 bytes n (standing s store n);
    place_is = λ n some below. refl;
    size_is = λ n some below. refl;
    long = refl;
    byte_is = λ k out. refl;
  }

  module _ (left : ℕ) (bytes : List ℕ) (s : Sender) (store : List ℕ) (sound : Sound s store) (made : List ℕ) (room : Room s made) (is : made ≡ packet s.next.0 (take s.chunk bytes))
      (after : Stored) (rest : Stores packet left (drop s.chunk bytes) (grown s made) (laid s made store) after) where
    stores_more : Stores packet (suc left) bytes s store after
    stores_more =
        let some = (facts s store sound).next_some in
        record {
          sound = rest.sound;
          next_is = omega (arith, rest.next_is);
          chunk_is = rest.chunk_is;
          count_is = rest.count_is;
          window_is = rest.window_is;
          timing_is = rest.timing_is;
          timer_is = rest.timer_is;
          clock_is = rest.clock_is;
          means = λ n.
              rest.means n
              ∙ means_more packet s.chunk s.next.0 left bytes n (standing s store n) (standing (grown s made) (laid s made store) n)
              (λ e. rw (← e) (next_waits s store sound made room ∙ ap waits is))
              (λ o. others_stand s store sound made room n o);
          place_is = λ n z below. rest.place_is n z (omega arith) ∙ place_stays s store sound made room n z (λ e. omega arith);
          size_is = λ n z below. rest.size_is n z (omega arith) ∙ size_stays s store sound made room n z (λ e. omega arith);
          long = rest.long ∙ laid_long s store sound made room;
          byte_is = λ k out.
              let z : s.next.0 ≡ 0 → ⊥ = λ e. omega arith in
              let place : place_of after.state.numbers s.next.0 ≡ lowest_free s = rest.place_is s.next.0 z (omega arith) ∙ place_next s store sound made room in
              let size : size_of after.state s.next.0 ≡ length made = rest.size_is s.next.0 z (omega arith) ∙ size_next s store sound made room in
              let own : is_outside after.state s.next.0 k ≡ true = out s.next.0 (omega arith) (omega arith) in
              rest.byte_is k (λ n a b. out n (omega arith) (omega arith))
              ∙ byte_stays s store sound made room k
              (outside (offset_of s.chunk (lowest_free s)) (length made) k (rw (rest.chunk_is, size, place) at own));
        }

  -- So many packets, each in the lowest place that is free then.
  pub stores : (count : ℕ) (bytes : List ℕ) (s : Sender) (store : List ℕ) → Sound s store → Roomy s count (length store) → FitsPlaces packet s.chunk
      → Stores packet count bytes s store (stored_by packet count bytes s store)
  unfolding stored_by
  stores zero bytes s store sound rooms fit = stores_none bytes s store sound
  stores (suc left) bytes s store sound rooms fit =
      let made = packet s.next.0 (take s.chunk bytes) in
      let room : Room s made = record {
        free = omega (arith, rooms.free);
        long = fit.long s.next.0 (take s.chunk bytes);
        short = fit.short s.next.0 (take s.chunk bytes) (simp length-take (omega arith));
        usable = omega (arith, rooms.numbered);
      } in
      let rooms' : Roomy (grown s made) left (length (laid s made store)) = record {
        chunk_most = rooms.chunk_most;
        count_most = rooms.count_most;
        store = laid_long s store sound made room ∙ rooms.store;
        free = omega (arith, rooms.free, free_less s store sound made room);
        numbered = omega (arith, rooms.numbered);
      } in
      stores_more left bytes s store sound made room refl _ (stores left (drop s.chunk bytes) (grown s made) (laid s made store) (joined_sound s store sound made room) rooms' fit)
