-- A packet that submit stores reads back: its number, its chunk, and the ack fields of the receiver given. Assumes nothing.
use Prim.Native.Nat.{ℕ, ◌+◌, ◌-◌, ◌^◌, ◌≤◌, ◌<◌}
use mathlib.Core.Path.{◌≡◌, refl, ◌∙◌}
use mathlib.Core.Bool.{true, false}
use mathlib.Core.List.{List, [], ◌∷◌}
use native.Mathlib.Omega.{arith}
use borrow.Author.Tests.{le-leb, lt-ltb}
use lib.ListN.{length}
use Rattle.terms.specs.declared.StreamId.{StreamId}
use Rattle.terms.proofs.Laws.{rung}
use Rattle.packet_read.specs.Flags.{bit}
use Rattle.terms.specs.Answers.{values}
use Rattle.receiver_state.specs.Rules.{rules_of}
use Rattle.receiver_state.specs.declared.Receiver.{Receiver}
use Rattle.receiver_ack.specs.Missing.{missing_from}
use Rattle.receiver_ack.specs.Fields.{at_least255, fields_from, ack_fields_of}
use Rattle.receiver_ack.proofs.Carried.{acked_reads, through_read}
use Rattle.sender_state.specs.declared.Sender.{Sender}
use Rattle.sender_submit.specs.Chunks.{data_packet}
use Rattle.sender_submit.specs.Submit.{submit_of}
use Rattle.sender_meaning.specs.Meaning.{waits, standing, Sound}
use Rattle.sender_meaning.specs.Steps.{chunk_at}
use Rattle.sender_meaning.specs.Changes.{ReadsAsData}
use Rattle.sender_meaning.proofs.Submitting.{submit_done, submit_count, submit_means, submit_chunk_most}

module _ (r : Receiver) (send recv : StreamId) where
  no_ack_clear : bit 10 (ack_fields_of r).flags ≡ false
  unfolding fields_from
  no_ack_clear = rung (λ (x : ℕ). bit 10 x ≡ false) (at_least255 (missing_from r.head.next.0 r.head.highest.0 r.marks)) (λ e. refl) (λ e. refl)

  -- The packet of a number and a payload of at most 64,491 bytes reads back, for a receiver that keeps the rules.
  pub data_packet_reads : rules_of r ≡ true → send.0 < 2 ^ 32 → recv.0 < 2 ^ 32 → (number : ℕ) (payload : List ℕ) → number < 2 ^ 32 → length payload ≤ 64491
      → ReadsAsData r send recv number payload (data_packet r send recv number payload)
  data_packet_reads keeps s t number payload n short =
      let p = data_packet r send recv number payload in
      let c = acked_reads r send recv keeps number payload s t n short in
      let is = c.fields_read_back in
      record {
        readable = rw is;
        send_read = rw is;
        recv_read = rw is;
        number_read = rw is;
        through_read = through_read r send recv p c;
        count_read = c.count_read;
        nacks_read = c.nacks_read;
        flags_read = rw is;
        acks_count = rw is no_ack_clear;
        payload_read = c.payload_read;
        resend_delay_read = rw is;
        delay_read = rw is;
        max_size_read = rw is;
        no_destination_there = c.no_destination_there;
        no_signature = c.no_signature;
        no_leftover = rw is;
      }

-- Each number that submit gives waits as a packet that reads as its number and its chunk.
module _ (s : Sender) (r : Receiver) (send recv : StreamId) (bytes store : List ℕ) (count : ℕ) (done : (submit_of s r send recv bytes store).says ≡ values (count ∷ []))
    (sound : Sound s store) (n : ℕ) (low : s.next.0 ≤ n) (high : n < s.next.0 + count) where
  pub submit_waits : standing (submit_of s r send recv bytes store).state (submit_of s r send recv bytes store).lent n
      ≡ waits (data_packet r send recv n (chunk_at s.chunk (n - s.next.0) bytes))
  submit_waits = submit_means s r send recv bytes store count done sound n ∙ rw (le-leb s.next.0 n low, lt-ltb n (s.next.0 + count) high)

  pub submit_reads : send.0 < 2 ^ 32 → recv.0 < 2 ^ 32
      → ReadsAsData r send recv n (chunk_at s.chunk (n - s.next.0) bytes) (data_packet r send recv n (chunk_at s.chunk (n - s.next.0) bytes))
  submit_reads a b =
      let d = submit_done s r send recv bytes store (count ∷ []) done in
      let k = submit_count s r send recv bytes store count done in
      data_packet_reads r send recv d.keeps a b n (chunk_at s.chunk (n - s.next.0) bytes)
      (omega (arith, d.roomy.numbered, k.0))
      (omega (arith, submit_chunk_most s r send recv bytes store count done (n - s.next.0), d.roomy.chunk_most))
