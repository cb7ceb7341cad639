-- A packet that carries the ack fields of a receiver beside its own number and payload, as our reader reads it: exactly these fields,
-- NACKs and payload. The plain acknowledgement is one, with number 0 and no payload; a sender's packets are the others. Assumes nothing.
use Prim.Native.Nat.{ℕ, ◌^◌, ◌≤◌, ◌<◌}
use mathlib.Core.Path.{◌≡◌, sym, ◌∙◌, ap}
use mathlib.Core.Bool.{true, not}
use mathlib.Core.List.{List, []}
use native.Mathlib.Omega.{arith}
use borrow.Author.Tests.{le-ltb}
use lib.ListN.{length, drop}
use Rattle.std.proofs.lemmas.Bool.Decides.{nat_tests}
use Rattle.terms.specs.declared.StreamId.{StreamId}
use Rattle.terms.specs.Answers.{values}
use Rattle.terms.specs.Lists.{all}
use Rattle.wire.specs.BigEndian.{numbers_at}
use Rattle.wire.proofs.RoundTrip.{fits, number_here}
use Rattle.packet_read.specs.Reading.{nack_count, read_of, fields_of, destination_of, signature_of, payload_of}
use Rattle.packet_read.proofs.Looks.{nack_numbers}
use Rattle.packet_write.specs.Writing.{written, packet_bytes, head_parts, option_parts, write_of}
use Rattle.packet_write.specs.RoundTrip.{Ranged, given}
use Rattle.packet_write.specs.declared.Fields.{Fields}
use Rattle.packet_write.proofs.Joins.{behind, options_length, packet_behind}
use Rattle.packet_write.proofs.ReadsBack.{reads_back}
use Rattle.receiver_state.specs.Rules.{rules_of}
use Rattle.receiver_calls.specs.Meaning.{standing, is_missing}
use Rattle.receiver_state.specs.declared.Receiver.{Receiver}
use Rattle.receiver_state.proofs.Facts.{ruled}
use Rattle.receiver_ack.specs.Missing.{missing_from, is_among, is_received}
use Rattle.receiver_ack.specs.Fields.{at_least255, acked_through, fields_from, ack_fields_of, ack_nacks_of, ack_through_of}
use Rattle.receiver_ack.specs.Acknowledge.{acked_fields}
use Rattle.receiver_ack.proofs.Among.{all_implies}
use Rattle.receiver_ack.proofs.Ways.{nacks_few, packet_most, packet_written}
use Rattle.receiver_ack.proofs.Claims.{through_at_most, nacks_missing, nacks_told, absent_received}

-- The packet p reads as one of the receiver r's, under a number and with a payload: no leftover, no destination, no signature.
pub record Carries (r : Receiver) (send recv : StreamId) (number : ℕ) (payload p : List ℕ) : Type 0 where
  pub fields_read_back : read_of p ≡ values (given (acked_fields (ack_fields_of r) send recv number) (ack_nacks_of r) [] [] payload)
  pub count_read : nack_count p ≡ length (ack_nacks_of r)
  pub nacks_read : numbers_at 4 (nack_count p) 17 p ≡ ack_nacks_of r
  pub no_destination_there : destination_of p ≡ []
  pub no_signature : signature_of p ≡ []
  pub payload_read : payload_of p ≡ payload

-- the count of NACKs, where it stands
count_here : (f : Fields) (nacks payload : List ℕ) → length nacks ≤ 255 → nack_count (packet_bytes f nacks [] [] payload) ≡ length nacks
count_here f nacks payload few =
    let rest = behind (drop 5 (head_parts f nacks (options_length f [] []))) (behind (option_parts f [] []) payload) in
    number_here 1 (length nacks) 16 (packet_bytes f nacks [] [] payload) rest (omega arith) (ap (drop 16) (packet_behind f nacks [] [] payload))

module _ (r : Receiver) (send recv : StreamId) where
  module _ (keeps : rules_of r ≡ true) (number : ℕ) (payload : List ℕ) where
    -- the numbers fit their widths
    ranged : send.0 < 2 ^ 32 → recv.0 < 2 ^ 32 → number < 2 ^ 32 → Ranged (acked_fields (ack_fields_of r) send recv number)
    unfolding fields_from
    ranged s t n =
        let k = ruled r keeps in
        record {
          send_fits = s;
          recv_fits = t;
          seq_fits = n;
          ack_fits = omega (arith, through_at_most r, k.last);
          resend_fits = omega arith;
          flags_fit = grind (arith, nat_tests);
          delay_fits = grind (arith, nat_tests);
          max_fits = omega arith;
        }

    nacks_fit : all (fits 4) (ack_nacks_of r) ≡ true
    nacks_fit =
        let last = (ruled r keeps).last in
        all_implies (is_missing r) (fits 4) (ack_nacks_of r) (λ n h. grind (arith, nat_tests)) (nacks_missing r)

    -- with 65,535 bytes of room the writer takes it
    taken : length payload ≤ 64491 → write_of (acked_fields (ack_fields_of r) send recv number) (ack_nacks_of r) [] [] payload 65535
        ≡ written (length (packet_bytes (acked_fields (ack_fields_of r) send recv number) (ack_nacks_of r) [] [] payload)) 0
    unfolding fields_from
    taken short =
        let m = missing_from r.head.next.0 r.head.highest.0 r.marks in
        let through = acked_through m r.head.highest.0 in
        let few = nacks_few r.head.next.0 r.head.highest.0 r.marks in
        let p = packet_bytes (acked_fields (ack_fields_of r) send recv number) (ack_nacks_of r) [] [] payload in
        let most : length p ≤ 65535 = omega (arith, packet_most through send recv number (ack_nacks_of r) payload (at_least255 m) few) in
        rw (packet_written through send recv number (ack_nacks_of r) payload (at_least255 m) 65535 few short, le-ltb 65535 (length p) most)

    -- A packet with a receiver's ack fields, any number and a payload of at most 64,491 bytes reads back as it was made.
    pub acked_reads : send.0 < 2 ^ 32 → recv.0 < 2 ^ 32 → number < 2 ^ 32 → length payload ≤ 64491
        → Carries r send recv number payload (packet_bytes (acked_fields (ack_fields_of r) send recv number) (ack_nacks_of r) [] [] payload)
    acked_reads s t n short =
        let f = acked_fields (ack_fields_of r) send recv number in
        let count = count_here f (ack_nacks_of r) payload (nacks_few r.head.next.0 r.head.highest.0 r.marks) in
        let back = reads_back f (ack_nacks_of r) [] [] payload 65535 _ (ranged s t n) nacks_fit (taken short) in
        record {
          fields_read_back = back.fields_back;
          count_read = count;
          nacks_read = sym (nack_numbers _ _ back.fields_back) ∙ back.nacks_back;
          no_destination_there = back.destination_back;
          no_signature = back.signature_back;
          payload_read = back.payload_back;
        }

  -- In the packet's own bytes: a number up to its ack-through is among its NACKs exactly if it is missing, ..
  module _ {number : ℕ} {payload : List ℕ} (p : List ℕ) (reads : Carries r send recv number payload p) where
    pub through_read : (fields_of p).ack_through.0 ≡ ack_through_of r
    through_read = rw reads.fields_read_back

    pub nacks_claim : (n : ℕ) → n ≤ (fields_of p).ack_through.0 → is_among n (numbers_at 4 (nack_count p) 17 p) ≡ is_missing r n
    nacks_claim n up = rw reads.nacks_read (nacks_told r n (omega (arith, through_read)))

    -- .. and absent from them exactly if it is taken, at most the s that the start came after, or held.
    pub absence_claims : (store : List ℕ) (n : ℕ) → n ≤ (fields_of p).ack_through.0
        → not (is_among n (numbers_at 4 (nack_count p) 17 p)) ≡ is_received (standing r store n)
    absence_claims store n up = rw reads.nacks_read (absent_received r store n (omega (arith, through_read)))
