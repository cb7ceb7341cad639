-- An acknowledgement asked at the end of a run claims nothing that did not arrive: a number up to ack-through is absent from the NACKs exactly
-- if the state has it taken or held (the acknowledgement's laws), which at the end of a run means at most s, taken or held. Assumes nothing.
use Prim.Native.Nat.{ℕ, ◌≤◌, ◌<◌, ◌^◌}
use mathlib.Core.Path.{◌≡◌, sym, ◌∙◌, ap}
use mathlib.Core.Bool.{true, false, not}
use mathlib.Core.List.{List}
use mathlib.Core.Logic.{◌⊎◌, inl, inr, ⊎_elim}
use native.Mathlib.Decide.{dec_le, dec_lt}
use native.Mathlib.Nat.{sub-zero}
use native.Mathlib.Omega.{arith}
use borrow.Author.Tests.{lt-ltb, le-ltb, le-leb, lt-leb, ltb-true, not-true}
use lib.Dec.{ltb}
use lib.ListN.{length}
use Rattle.terms.specs.declared.StreamId.{StreamId}
use Rattle.terms.proofs.Laws.{case, and_left, and_right}
use Rattle.wire.specs.BigEndian.{numbers_at}
use Rattle.packet_read.specs.Reading.{nack_count}
use Rattle.packet_read.proofs.Looks.{nack_numbers}
use Rattle.receiver_calls.specs.Meaning.{standing}
use Rattle.receiver_calls.proofs.Laws.{slot_fits_lem}
use Rattle.receiver_ack.specs.Missing.{is_among, is_received}
use Rattle.receiver_ack.specs.Acknowledge.{plain_ack_of}
use Rattle.receiver_ack.proofs.Carried.{absence_claims}
use Rattle.receiver_ack.proofs.PlainAck.{ReadsAs, acknowledge_reads, acknowledge_written, acknowledge_enough, at_most_1044}
use Rattle.receiver_runs.specs.Runs.{Run, end_of}
use Rattle.receiver_runs.specs.Delivered.{Taken, Held, through_in, nacks_in, ack_of, ack_packet, Honest, NothingHidden}
use Rattle.receiver_runs.proofs.Pieces.{by_first}
use Rattle.receiver_runs.proofs.Places.{next_of, highest_in, first, known, taken_below, accepted_held}

-- what is neither taken nor held does not count as received
not_so : {C : Type 0} → false ≡ true → C
not_so e = let z : ◌≡◌ {A = ℕ} 0 1 = cc in absurd (omega arith)

module _ (run : Run) where
  -- what counts as received is at most s, taken or held,
  received_is : (n : ℕ) → is_received (standing (end_of run).state (end_of run).store n) ≡ true → (n ≤ run.s.0) ⊎ (Taken run n ⊎ Held run n)
  received_is n e =
      case inl
      (λ (low : n ≤ run.s.0 → ⊥).
      case
      (λ (a : n < next_of run). let t = (known run).taken_all n (omega arith) a in inr (inl (t.0, t.1)))
      (λ (a : n < next_of run → ⊥).
      by_first (first run n)
      (λ q.
      let told = rw ((known run).stands n, le-ltb n (next_of run) (omega arith), q) at e in
      case
      (λ (b : n ≤ highest_in run). not_so (rw (le-leb n (highest_in run) b) at told))
      (λ (b : n ≤ highest_in run → ⊥). not_so (rw (lt-leb n (highest_in run) (omega arith)) at told))
      (dec_le n (highest_in run)))
      (λ bytes q. inr (inr (bytes, accepted_held run n bytes (omega arith) q))))
      (dec_lt n (next_of run)))
      (dec_le n run.s.0)

  -- and the other way round
  is_received_lem : (n : ℕ) → (n ≤ run.s.0) ⊎ (Taken run n ⊎ Held run n) → is_received (standing (end_of run).state (end_of run).store n) ≡ true
  is_received_lem n =
      let below : n < next_of run → is_received (standing (end_of run).state (end_of run).store n) ≡ true = λ a. rw ((known run).stands n, lt-ltb n (next_of run) a) in
      ⊎_elim (λ low. below (omega (arith, (known run).next_is))) (⊎_elim (λ t. below (taken_below run n t)) (λ h. rw h.1))

  -- a packet that reads as the acknowledgement of the run's end
  module _ (send recv : StreamId) (packet : List ℕ) (reads : ReadsAs (end_of run).state send recv packet) where
    -- its NACKs are where our reader finds them
    nacks_are : nacks_in packet ≡ numbers_at 4 (nack_count packet) 17 packet
    nacks_are = nack_numbers packet _ reads.fields_read_back

    absent : (n : ℕ) → n ≤ through_in packet → not (is_among n (nacks_in packet)) ≡ is_received (standing (end_of run).state (end_of run).store n)
    absent n up = rw nacks_are (absence_claims (end_of run).state send recv packet reads (end_of run).store n up)

    honest : Honest run packet
    honest = record {
      readable = rw reads.fields_read_back;
      absent_is = λ n up.
          (λ e. received_is n (sym (absent n up) ∙ ap not e), λ h. not-true (is_among n (nacks_in packet)) (absent n up ∙ is_received_lem n h));
    }

  -- 3. a number up to an acknowledgement's ack-through is absent from its NACKs exactly if it is at most s, taken or held, and 1,044 bytes
  -- always hold it
  pub nothing_hidden : NothingHidden run
  nothing_hidden = record {
    honest = λ send recv output size wide done.
        honest send recv (ack_packet (ack_of run send recv output) size)
        (rw (sub-zero size)
        (acknowledge_reads (end_of run).state send recv output size done
        (ltb-true send.0 (2 ^ 32) (and_left (ltb send.0 (2 ^ 32)) (ltb recv.0 (2 ^ 32)) wide))
        (ltb-true recv.0 (2 ^ 32) (and_right (ltb send.0 (2 ^ 32)) (ltb recv.0 (2 ^ 32)) wide))));
    at_most_1044 = λ send recv output size done.
        omega (arith, (acknowledge_written (end_of run).state send recv output size done).long, at_most_1044 (end_of run).state send recv);
    always_fits = λ send recv output room. (
      length (plain_ack_of (end_of run).state send recv),
      acknowledge_enough (end_of run).state send recv output (known run).sound.keeps (slot_fits_lem (end_of run).state (end_of run).store (known run).sound) room,
    );
  }
