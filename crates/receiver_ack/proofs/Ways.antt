-- The definitions at each way out of the code. Assumes nothing.
use Prim.Native.Nat.{ℕ, ◌+◌, ◌-◌, ◌*◌, ◌^◌, ◌≤◌, ◌<◌, min}
use mathlib.Core.Path.{◌≡◌, refl, sym, ◌∙◌}
use mathlib.Core.Bool.{Bool, true, false}
use mathlib.Core.List.{List, [], ◌∷◌}
use native.Mathlib.Omega.{arith}
use lib.Dec.{ltb}
use lib.ListN.{length, get_or, take, drop, length-append, get_or-append}
use lib.Seq.{take_at, take-append-le, length-take-le}
use Rattle.std.proofs.lemmas.Bool.Decides.{nat_tests}
use Rattle.terms.specs.declared.StreamId.{StreamId}
use Rattle.terms.specs.Ladder.{◌when◌else◌}
use Rattle.terms.specs.Lists.{◌at_front_of◌}
use Rattle.packet_write.specs.Writing.{written, packet_bytes, write_of, output_after}
use Rattle.packet_write.specs.declared.Fields.{Fields}
use Rattle.packet_write.specs.declared.Written.{Written}
use Rattle.packet_write.proofs.Joins.{length_packet, length_options}
use Rattle.terms.specs.Answers.{Saying, Said, refusal, values}
use Rattle.receiver_state.specs.Rules.{rules_of}
use Rattle.receiver_state.specs.declared.Receiver.{Receiver}
use Rattle.receiver_state.proofs.Facts.{ruled}
use Rattle.receiver_ack.specs.Missing.{missing_from, spanned}
use Rattle.receiver_ack.specs.Fields.{at_least255, ack_nacks, acked_through, fields_from, nacks_from}
use Rattle.receiver_ack.specs.Acknowledge.{plain_fields, plain_ack}
use Rattle.receiver_ack.specs.declared.AckFields.{AckFields}
use Rattle.receiver_ack.proofs.Among.{missing_ascending, climbs}

-- FIELDS

pub nacks_count : (m : List ℕ) → length (ack_nacks m) ≡ min (length m) 255
nacks_count m = grind (arith, nat_tests, length-take-le 255 m)

pub through_few : (m : List ℕ) (highest : ℕ) → length m ≤ 255 → acked_through m highest ≡ highest
through_few m highest h = grind (arith, nat_tests)

-- the 256th stands at index 255, whatever stood behind the missing numbers
pub through_more : (m before : List ℕ) (highest : ℕ) → 255 < length m → acked_through m highest ≡ get_or (m at_front_of before) 255 0 - 1
through_more m before highest h = grind (arith, nat_tests, get_or-append m (drop (length m) before) 0 255 h)

pub some_256th : (next highest : ℕ) (marks before : List ℕ) → 255 < length (missing_from next highest marks) → 1 ≤ get_or (missing_from next highest marks at_front_of before) 255 0
some_256th next highest marks before h =
    let m = missing_from next highest marks in
    rw (get_or-append m (drop (length m) before) 0 255 h) (omega (arith, climbs 255 m (missing_ascending next highest marks) h))

-- at most 255 NACKs, which are the first of the missing numbers
pub nacks_few : (next highest : ℕ) (marks : List ℕ) → length (nacks_from next highest marks) ≤ 255
unfolding nacks_from
nacks_few next highest marks = rw (nacks_count (missing_from next highest marks)) (omega arith)

-- they stand at the front of a table with the missing numbers at its front
front : (m before : List ℕ) → (take (length (ack_nacks m)) (m at_front_of before) ≡ ack_nacks m) × (length (ack_nacks m) ≤ length (m at_front_of before))
front m before =
    let rest = drop (length m) before in (
      grind (arith, nat_tests, length-take-le 255 m, take_at m rest (length m) refl, take-append-le 255 m rest),
      grind (arith, nat_tests, length-take-le 255 m, length-append m rest),
    )

pub nacks_front : (next highest : ℕ) (marks before : List ℕ) (acks : AckFields) (table : List ℕ) → acks ≡ fields_from next highest marks
    → table ≡ missing_from next highest marks at_front_of before → (take acks.nacks table ≡ nacks_from next highest marks) × (acks.nacks ≤ length table)
unfolding fields_from nacks_from
nacks_front next highest marks before acks table e f = rw (e, f) (front (missing_from next highest marks) before)

-- PACKETS

-- the fields of a packet with a receiver's ack fields, whose flags and delay one test decides
abbrev pub fields_by : Bool → ℕ → StreamId → StreamId → ℕ → Fields
fields_by choked through send recv number = record {
  send_stream_id = send;
  recv_stream_id = recv;
  seq_nro = record { 0 = number };
  ack_through = record { 0 = through };
  resend_delay = 0;
  flags = 2 ^ 6 when choked else 0;
  delay = 60001 when choked else 0;
  max_size = 0;
}

abbrev pub packet_by : Bool → ℕ → StreamId → StreamId → ℕ → List ℕ → List ℕ → List ℕ
packet_by choked through send recv number nacks payload = packet_bytes (fields_by choked through send recv number) nacks [] [] payload

two_at_most : (t : Bool) → (2 when t else 0) ≤ 2
two_at_most true = omega arith
two_at_most false = omega arith

module _ (through : ℕ) (send recv : StreamId) (number : ℕ) (nacks payload : List ℕ) where
  -- how long it is
  pub packet_long : (choked : Bool) → length (packet_by choked through send recv number nacks payload) ≡ 22 + 4 * length nacks + (2 when choked else 0) + length payload
  packet_long true =
      omega (arith, length_packet (fields_by true through send recv number) nacks [] [] payload, length_options (fields_by true through send recv number) [] [])
  packet_long false =
      omega (arith, length_packet (fields_by false through send recv number) nacks [] [] payload, length_options (fields_by false through send recv number) [] [])

  pub packet_most : (choked : Bool) → length nacks ≤ 255 → length (packet_by choked through send recv number nacks payload) ≤ 1044 + length payload
  packet_most choked few = omega (arith, packet_long choked, two_at_most choked)

  -- with a payload of at most 64,491 bytes the writer refuses it only for an output that is too short
  pub packet_written : (choked : Bool) (room : ℕ) → length nacks ≤ 255 → length payload ≤ 64491
      → write_of (fields_by choked through send recv number) nacks [] [] payload room
      ≡ (refusal 7 when ltb room (length (packet_by choked through send recv number nacks payload)) else written (length (packet_by choked through send recv number nacks payload)) 0)
  unfolding write_of
  packet_written true room few short = let long = packet_long true in grind (arith, nat_tests)
  packet_written false room few short = let long = packet_long false in grind (arith, nat_tests)

-- PLAIN

-- of what the writer says, the answer gives the length alone
short_told : (t : Bool) (k n : ℕ) → ◌≡◌ {A = Saying Written} (refusal k) (refusal 7 when t else written n 0) → ◌≡◌ {A = Said} (refusal k) (refusal 7 when t else values (n ∷ []))
short_told t k n e = grind (arith, nat_tests)

length_told : (t : Bool) (w : Written) (n : ℕ) → values w ≡ (refusal 7 when t else written n 0) → ◌≡◌ {A = Said} (values (w.length ∷ [])) (refusal 7 when t else values (n ∷ []))
length_told t w n e = grind (arith, nat_tests)

module _ (next highest : ℕ) (marks : List ℕ) (send recv : StreamId) where
  pub ack_most : length (plain_ack next highest marks send recv) ≤ 1044
  unfolding plain_ack fields_from
  ack_most =
      let m = missing_from next highest marks in
      packet_most (acked_through m highest) send recv 0 (nacks_from next highest marks) [] (at_least255 m) (nacks_few next highest marks)

  -- what the writer answers to a plain ack
  ack_written : (room : ℕ) → write_of (plain_fields (fields_from next highest marks) send recv) (nacks_from next highest marks) [] [] [] room
      ≡ (refusal 7 when ltb room (length (plain_ack next highest marks send recv)) else written (length (plain_ack next highest marks send recv)) 0)
  unfolding plain_ack fields_from
  ack_written room =
      let m = missing_from next highest marks in
      packet_written (acked_through m highest) send recv 0 (nacks_from next highest marks) [] (at_least255 m) room (nacks_few next highest marks) (omega arith)

  module _ (acks : AckFields) (nacks output after : List ℕ) (e : acks ≡ fields_from next highest marks) (f : nacks ≡ nacks_from next highest marks)
      (leaves : after ≡ output_after (plain_fields acks send recv) nacks [] [] [] output) where
    told : write_of (plain_fields acks send recv) nacks [] [] [] (length output)
        ≡ (refusal 7 when ltb (length output) (length (plain_ack next highest marks send recv)) else written (length (plain_ack next highest marks send recv)) 0)
    told = rw (e, f) (ack_written (length output))

    pub plain_refused : (k : ℕ) → refusal k ≡ write_of (plain_fields acks send recv) nacks [] [] [] (length output)
        → (◌≡◌ {A = Said} (refusal k) (refusal 7 when ltb (length output) (length (plain_ack next highest marks send recv)) else values (length (plain_ack next highest marks send recv) ∷ [])))
        × (after ≡ output)
    plain_refused k says = (
      short_told (ltb (length output) (length (plain_ack next highest marks send recv))) k (length (plain_ack next highest marks send recv)) (says ∙ told),
      leaves ∙ rw (sym says),
    )

    pub plain_written : (w : Written) → values w ≡ write_of (plain_fields acks send recv) nacks [] [] [] (length output)
        → (◌≡◌ {A = Said} (values (w.length ∷ [])) (refusal 7 when ltb (length output) (length (plain_ack next highest marks send recv)) else values (length (plain_ack next highest marks send recv) ∷ [])))
        × (after ≡ plain_ack next highest marks send recv at_front_of output)
    unfolding plain_ack
    plain_written w says = (
      length_told (ltb (length output) (length (plain_ack next highest marks send recv))) w (length (plain_ack next highest marks send recv)) (says ∙ told),
      leaves ∙ rw (sym says, e, f),
    )

-- ACKNOWLEDGE

-- the rules bound the numbers; the first part shows the receiver, so that `grind` finds it
pub bounded : (r : Receiver) → rules_of r ≡ true → (rules_of r ≡ true) × spanned r
bounded r keeps = let f = ruled r keeps in (keeps, (f.far, f.last))
