-- Submit told by the standing of each number: what a run of calls is reasoned with, in place of the definitions' text. Assumes nothing.
use Prim.Native.Nat.{ℕ, ◌+◌, ◌-◌, ◌≤◌, ◌<◌}
use mathlib.Core.Path.{◌≡◌, refl, sym, ◌∙◌, ap}
use mathlib.Core.Bool.{◌||◌, not, true}
use mathlib.Core.List.{List, [], ◌∷◌}
use native.Mathlib.Decide.{dec_le}
use native.Mathlib.Omega.{arith}
use borrow.Author.Tests.{le-leb, lt-leb, le-ltb, lt-ltb}
use lib.Dec.{leb, ltb, eqb}
use lib.ListN.{length, get_or}
use Rattle.terms.specs.declared.StreamId.{StreamId}
use Rattle.terms.specs.Ladder.{◌when◌else◌}
use Rattle.terms.specs.Lists.{joined}
use Rattle.terms.proofs.Laws.{case}
use Rattle.terms.specs.Answers.{refusal, values}
use Rattle.receiver_state.specs.Rules.{rules_of, slot_fits}
use Rattle.receiver_state.specs.declared.Receiver.{Receiver}
use Rattle.receiver_calls.proofs.Laws.{by_said}
use Rattle.receiver_ack.specs.Missing.{missing_from}
use Rattle.receiver_ack.specs.Fields.{at_least255, acked_through, fields_from, nacks_from}
use Rattle.receiver_ack.proofs.Ways.{nacks_few, packet_long, packet_most}
use Rattle.sender_state.specs.Table.{count_of}
use Rattle.sender_state.specs.declared.Sender.{Sender}
use Rattle.sender_state.specs.Numbers.{waiting}
use Rattle.sender_resend.specs.Resend.{is_empty}
use Rattle.sender_submit_answer.specs.Answer.{chunks_of, free_of, submit_said}
use Rattle.sender_submit_answer.proofs.Lengths.{chunks_some}
use Rattle.sender_submit.specs.Chunks.{data_packet, stored_by}
use Rattle.sender_submit.specs.Submit.{submit_of}
use Rattle.sender_submit.proofs.Ways.{Made, made}
use Rattle.sender_meaning.specs.Meaning.{standing, Sound}
use Rattle.sender_meaning.specs.Steps.{is_fair, chunk_at, chunks_from, submitted_as, is_outside}
use Rattle.sender_meaning.specs.Changes.{Stores}
use Rattle.sender_meaning.proofs.Counts.{fair_rung}
use Rattle.sender_meaning.proofs.Stands.{waiting_count}
use Rattle.sender_meaning.proofs.SubmittingChunks.{chunks_are_bytes, chunk_some, chunk_most}
use Rattle.sender_meaning.proofs.SubmittingStored.{FitsPlaces, stores}

-- a packet with the ack fields of any receiver fits a place
pub packet_fits : (r : Receiver) (send recv : StreamId) (chunk : ℕ) → FitsPlaces (data_packet r send recv) chunk
unfolding fields_from
packet_fits r send recv chunk =
    let m = missing_from r.head.next.0 r.head.highest.0 r.marks in
    let nacks = nacks_from r.head.next.0 r.head.highest.0 r.marks in
    let through = acked_through m r.head.highest.0 in
    record {
      long = λ n payload. omega (arith, packet_long through send recv n nacks payload (at_least255 m));
      short = λ n payload h. omega (arith, packet_most through send recv n nacks payload (at_least255 m) (nacks_few r.head.next.0 r.head.highest.0 r.marks));
    }

module _ (s : Sender) (r : Receiver) (send recv : StreamId) (bytes store : List ℕ) where
  says_is : (submit_of s r send recv bytes store).says ≡ submit_said s r (length bytes) (length store)
  unfolding submit_of
  says_is = refl

  -- A refused submit leaves the state and the store.
  pub submit_refused : (n : ℕ) → (submit_of s r send recv bytes store).says ≡ refusal n
      → ((submit_of s r send recv bytes store).state ≡ s) × ((submit_of s r send recv bytes store).lent ≡ store)
  unfolding submit_of
  submit_refused n e = (rw e, rw e)

  -- What holds where packets are made.
  pub submit_done : (given : List ℕ) → (submit_of s r send recv bytes store).says ≡ values given → Made s r (length bytes) (length store) given
  submit_done given done = made s r (length bytes) (length store) given (sym says_is ∙ done)

  module _ (count : ℕ) (done : (submit_of s r send recv bytes store).says ≡ values (count ∷ [])) where
    asked : Made s r (length bytes) (length store) (count ∷ [])
    asked = submit_done (count ∷ []) done

    count_is : count ≡ chunks_of s.chunk (length bytes)
    count_is = let e = asked.gives in cc

    stored_is : ((submit_of s r send recv bytes store).state ≡ (stored_by (data_packet r send recv) count bytes s store).state)
        × ((submit_of s r send recv bytes store).lent ≡ (stored_by (data_packet r send recv) count bytes s store).store)
    unfolding submit_of
    stored_is = (rw (done, count_is), rw (done, count_is))

    -- How many: as many as the bytes make chunks, and at least one.
    pub submit_count : (count ≡ chunks_of s.chunk (length bytes)) × (1 ≤ count)
    submit_count =
        let d = asked in
        (count_is, omega (arith, count_is, chunks_some s.chunk (length bytes) d.chunk_some d.size_some))

    -- The chunks, of which a number's packet has its own: joined they are the bytes, none is empty, none longer than C.
    pub submit_chunks : joined (chunks_from s.chunk 0 count bytes) ≡ bytes
    submit_chunks = rw count_is (chunks_are_bytes s.chunk asked.chunk_some bytes)

    pub submit_chunk_some : (k : ℕ) → k < count → 1 ≤ length (chunk_at s.chunk k bytes)
    submit_chunk_some k h = chunk_some s.chunk asked.chunk_some bytes k (omega (arith, count_is))

    pub submit_chunk_most : (k : ℕ) → length (chunk_at s.chunk k bytes) ≤ s.chunk
    submit_chunk_most k = chunk_most s.chunk k bytes

    module _ (sound : Sound s store) where
      -- Every number's standing, every byte of the store, and every other field of the state.
      pub submit_stores : Stores (data_packet r send recv) count bytes s store
          (record { state = (submit_of s r send recv bytes store).state; store = (submit_of s r send recv bytes store).lent })
      submit_stores =
          rw (stored_is.0, stored_is.1)
          (stores (data_packet r send recv) count bytes s store sound (rw count_is asked.roomy) (packet_fits r send recv s.chunk))

      pub submit_keeps : Sound (submit_of s r send recv bytes store).state (submit_of s r send recv bytes store).lent
      submit_keeps = submit_stores.sound

      -- Next goes on by so many.
      pub submit_next : (submit_of s r send recv bytes store).state.next.0 ≡ s.next.0 + count
      submit_next = submit_stores.next_is

      pub submit_means : (n : ℕ) → standing (submit_of s r send recv bytes store).state (submit_of s r send recv bytes store).lent n
          ≡ submitted_as (data_packet r send recv) s.chunk s.next.0 count bytes n (standing s store n)
      submit_means = submit_stores.means

      -- A byte of the store that is none of the new packets' is as it was.
      pub submit_only_its_bytes : (k : ℕ) → ((n : ℕ) → s.next.0 ≤ n → n < s.next.0 + count → is_outside (submit_of s r send recv bytes store).state n k ≡ true)
          → get_or (submit_of s r send recv bytes store).lent k 0 ≡ get_or store k 0
      submit_only_its_bytes = submit_stores.byte_is

  -- Submit keeps a state and a store that belong together, whatever it is given.
  pub submit_sound : Sound s store → Sound (submit_of s r send recv bytes store).state (submit_of s r send recv bytes store).lent
  submit_sound sound =
      by_said (submit_of s r send recv bytes store).says
      (λ n e. rw ((submit_refused n e).0, (submit_refused n e).1) sound)
      (λ given e. submit_keeps (chunks_of s.chunk (length bytes)) (e ∙ ap values (submit_done given e).gives) sound)

  -- Its answer in such a state: the receiver alone may be at fault, and past that 21 is given exactly if a number waits.
  pub submit_answer : Sound s store → (submit_of s r send recv bytes store).says
      ≡ (refusal 11 when not (rules_of r) else
      refusal 10 when not (slot_fits r.head.slot) else
      refusal 21 when not (is_empty (waiting s)) else
      refusal 19 when eqb (length bytes) 0 || ltb 65535 (length bytes) else
      refusal 20 when leb 4294967295 (s.next.0 + (chunks_of s.chunk (length bytes) - 1)) else
      refusal 18 when ltb (free_of s) (chunks_of s.chunk (length bytes)) else
      values (chunks_of s.chunk (length bytes) ∷ []))
  unfolding submit_said
  submit_answer sound =
      let some : ltb 0 (count_of 1 s.marks) ≡ not (is_empty (waiting s)) = rw (waiting_count s store sound) (some_or_none (count_of 1 s.marks)) in
      says_is ∙ rw (sound.keeps, sound.fits, some)
    where
      some_or_none : (k : ℕ) → ltb 0 k ≡ not (leb k 0)
      some_or_none k =
          case
          (λ (h : k ≤ 0). rw (le-leb k 0 h, le-ltb 0 k h))
          (λ (h : k ≤ 0 → ⊥). rw (lt-leb k 0 (omega arith), lt-ltb 0 k (omega arith)))
          (dec_le k 0)

  -- none blames the rules or the sizes, where the receiver's are not at fault
  pub submit_fair : Sound s store → rules_of r ≡ true → slot_fits r.head.slot ≡ true → is_fair (submit_of s r send recv bytes store).says ≡ true
  submit_fair sound keeps fits =
      let n = chunks_of s.chunk (length bytes) in
      rw (submit_answer sound, keeps, fits)
      (fair_rung 21 (not (is_empty (waiting s))) _ refl
      (fair_rung 19 (eqb (length bytes) 0 || ltb 65535 (length bytes)) _ refl
      (fair_rung 20 (leb 4294967295 (s.next.0 + (n - 1))) _ refl
      (fair_rung 18 (ltb (free_of s) n) _ refl refl))))
