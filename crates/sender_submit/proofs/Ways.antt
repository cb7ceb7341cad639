-- The definitions at each way out of the code. Assumes nothing.
use Prim.Native.Nat.{ℕ, ◌+◌, ◌-◌, ◌^◌, ◌≤◌}
use mathlib.Core.Path.{◌≡◌, refl, sym, ◌∙◌, ap}
use mathlib.Core.Bool.{Bool, true, false, ◌&&◌, ◌||◌, not}
use mathlib.Core.List.{List, [], ◌∷◌}
use native.Mathlib.Omega.{arith}
use borrow.Author.Tests.{le-ltb, leb-false, ltb-false, not-false}
use lib.Dec.{leb, ltb, eqb}
use lib.ListN.{length, take}
use Rattle.std.specs.Prelude.{Result, Ok}
use Rattle.terms.specs.Ladder.{◌when◌else◌}
use Rattle.terms.specs.Lists.{◌at_front_of◌}
use Rattle.terms.specs.declared.Refusal.{Refusal}
use Rattle.terms.specs.declared.StreamId.{StreamId}
use Rattle.terms.proofs.Laws.{and_left, and_right, past}
use Rattle.packet_write.specs.Writing.{written, write_of}
use Rattle.packet_write.specs.declared.Fields.{Fields}
use Rattle.packet_write.specs.declared.Written.{Written}
use Rattle.terms.specs.Answers.{values, saying}
use Rattle.terms.proofs.Determined.{saying_one}
use Rattle.receiver_state.specs.Rules.{rules_of, slot_fits}
use Rattle.receiver_state.specs.declared.Receiver.{Receiver}
use Rattle.receiver_ack.specs.Missing.{missing_from, missing_of}
use Rattle.receiver_ack.specs.Fields.{at_least255, fields_from, nacks_from, ack_fields_of, ack_nacks_of}
use Rattle.receiver_ack.specs.Acknowledge.{acked_fields}
use Rattle.receiver_ack.specs.declared.AckFields.{AckFields}
use Rattle.receiver_ack.proofs.Ways.{fields_by, packet_most, packet_written, nacks_few, nacks_front}
use Rattle.sender_state.specs.Table.{count_of}
use Rattle.sender_state.specs.Rules.{rules, sizes_fit}
use Rattle.sender_state.specs.declared.Sender.{Sender}
use Rattle.sender_state.proofs.Facts.{sized}
use Rattle.sender_submit_answer.specs.Answer.{chunks_of, free_of, submit_said}
use Rattle.sender_submit_answer.proofs.Lengths.{length_fair}
use Rattle.sender_submit.specs.Chunks.{data_packet, Stored, stored_by}
use Rattle.sender_submit.specs.Steps.{acked_packet, chokes, Acking, Roomy}
use Rattle.sender_submit.specs.Making.{made_by}
use Rattle.sender_submit.specs.declared.packets.Making.{Making}

-- ONE PACKET

chokes_is : (t : Bool) → eqb (60001 when t else 0) 60001 ≡ t
chokes_is true = refl
chokes_is false = refl

-- what every receiver gives, the writer takes
pub acking_of : (next highest : ℕ) (marks : List ℕ) → Acking (fields_from next highest marks) (nacks_from next highest marks)
unfolding fields_from
acking_of next highest marks =
    let e = sym (chokes_is (at_least255 (missing_from next highest marks))) in
    record {
      few = nacks_few next highest marks;
      flags = ap (λ (t : Bool). 2 ^ 6 when t else 0) e;
      delay = ap (λ (t : Bool). 60001 when t else 0) e;
    }

module _ (m : Making) (number : ℕ) (payload : List ℕ) where
  fields_are : acked_fields m.acks m.send m.recv number ≡ fields_by (chokes m.acks) m.acks.ack_through.0 m.send m.recv number
  fields_are = λ i. record {
    send_stream_id = m.send;
    recv_stream_id = m.recv;
    seq_nro = record { 0 = number };
    ack_through = m.acks.ack_through;
    resend_delay = 0;
    flags = m.acking.flags i;
    delay = m.acking.delay i;
    max_size = 0;
  }

  pub made_most : length (made_by m number payload) ≤ 1044 + length payload
  made_most = rw fields_are (packet_most m.acks.ack_through.0 m.send m.recv number m.nacks.now payload (chokes m.acks) m.acking.few)

  -- the writer has nothing to refuse where the place is long enough
  pub made_written : (room : ℕ) → length payload ≤ 1812 → length payload + 1044 ≤ room
      → write_of (acked_fields m.acks m.send m.recv number) m.nacks.now [] [] payload room ≡ written (length (made_by m number payload)) 0
  made_written room short enough =
      let most = made_most in
      ap (λ (f : Fields). write_of f m.nacks.now [] [] payload room) fields_are
      ∙ packet_written m.acks.ack_through.0 m.send m.recv number m.nacks.now payload (chokes m.acks) room m.acking.few (omega arith)
      ∙ rw (← fields_are) (rw (le-ltb room (length (made_by m number payload)) (omega arith)))

  pub made_done : (room : ℕ) (answer : Result Written Refusal) → length payload ≤ 1812 → length payload + 1044 ≤ room
      → saying answer ≡ write_of (acked_fields m.acks m.send m.recv number) m.nacks.now [] [] payload room
      → answer ≡ Ok (record { length = length (made_by m number payload); signature_at = 0 })
  made_done room answer short enough says = saying_one answer (Ok (record { length = length (made_by m number payload); signature_at = 0 })) (says ∙ made_written room short enough)

-- a receiver's NACKs stand at the front of the table with its missing numbers
pub nacks_at : (r : Receiver) (before : List ℕ) → (take (ack_fields_of r).nacks (missing_of r at_front_of before) ≡ ack_nacks_of r)
    × ((ack_fields_of r).nacks ≤ length (missing_of r at_front_of before))
nacks_at r before = nacks_front r.head.next.0 r.head.highest.0 r.marks before (ack_fields_of r) (missing_of r at_front_of before) refl refl

-- with the ack fields of a receiver, what is stored is stored by its packets
pub stored_of : (r : Receiver) (send recv : StreamId) (acks : AckFields) (nacks : List ℕ) → acks ≡ ack_fields_of r → nacks ≡ ack_nacks_of r
    → (packets : ℕ) (bytes : List ℕ) (s : Sender) (store : List ℕ) (all : Stored) → all ≡ stored_by (acked_packet acks nacks send recv) packets bytes s store
    → all ≡ stored_by (data_packet r send recv) packets bytes s store
stored_of r send recv acks nacks e f packets bytes s store all g = g ∙ λ k. stored_by (acked_packet (e k) (f k) send recv) packets bytes s store

-- THE ANSWER

-- what holds where packets are made
pub record Made (s : Sender) (r : Receiver) (size store_length : ℕ) (given : List ℕ) : Type 0 where
  pub keeps : rules_of r ≡ true
  pub size_some : 1 ≤ size
  pub chunk_some : 1 ≤ s.chunk
  pub roomy : Roomy s (chunks_of s.chunk size) store_length
  pub gives : given ≡ chunks_of s.chunk size ∷ []

pub made : (s : Sender) (r : Receiver) (size store_length : ℕ) (given : List ℕ) → submit_said s r size store_length ≡ values given → Made s r size store_length given
unfolding submit_said
made s r size store_length given h =
    let n = chunks_of s.chunk size in
    let p11 = past 11 (not (rules s && rules_of r)) _ given h in
    let p10 = past 10 (not (sizes_fit s.chunk s.count store_length && slot_fits r.head.slot)) _ given p11.1 in
    let p21 = past 21 (ltb 0 (count_of 1 s.marks)) _ given p10.1 in
    let p19 = past 19 (eqb size 0 || ltb 65535 size) _ given p21.1 in
    let p20 = past 20 (leb 4294967295 (s.next.0 + (n - 1))) _ given p19.1 in
    let p18 = past 18 (ltb (free_of s) n) _ given p20.1 in
    let z = sized s.chunk s.count store_length (and_left (sizes_fit s.chunk s.count store_length) (slot_fits r.head.slot) (not-false _ p10.0)) in
    let last = leb-false 4294967295 (s.next.0 + (n - 1)) p20.0 in
    record {
      keeps = and_right (rules s) (rules_of r) (not-false _ p11.0);
      size_some = (length_fair size p19.0).0;
      chunk_some = z.counts.chunk_some;
      roomy = record {
        chunk_most = z.counts.chunk_most;
        count_most = z.counts.count_most;
        store = z.store;
        free = ltb-false (free_of s) n p18.0;
        numbered = omega arith;
      };
      gives = let e = p18.1 in cc;
    }

-- what holds where the answer is a count; the answer comes first, so that `grind` finds it
pub submit_fair : (s : Sender) (r : Receiver) (size store_length packets : ℕ) → values (packets ∷ []) ≡ submit_said s r size store_length
    → (chunks_of s.chunk size ≡ packets) × (rules_of r ≡ true) × (1 ≤ s.chunk) × Roomy s (chunks_of s.chunk size) store_length
submit_fair s r size store_length packets says =
    let m = made s r size store_length (packets ∷ []) (sym says) in
    let e = m.gives in
    (cc, m.keeps, m.chunk_some, m.roomy)
