-- What was read writes back: a packet that reads without leftover option bytes, written again from its fields and parts, gives the same
-- bytes. Each number that was read, written where it stood in front of the bytes behind it, is the bytes from there on; so going from the
-- payload to the front the whole packet comes back. Nothing is asked of the flags: bits 12 to 15 and a signature without a destination
-- are covered. Assumes nothing.
use Prim.Native.Nat.{ℕ, ◌+◌, ◌-◌, ◌*◌, ◌/◌, ◌≤◌}
use mathlib.Core.Path.{◌≡◌, refl, sym, ◌∙◌, ap, subst}
use mathlib.Core.Bool.{Bool, true, false, ◌&&◌, not}
use mathlib.Core.List.{List, ◌++◌}
use native.Mathlib.Nat.{add-zero}
use native.Mathlib.Omega.{arith}
use lib.Dec.{eqb}
use lib.ListN.{length, take, drop, length-drop, take-append-drop}
use lib.Seq.{take_all, drop-drop, length-take-le}
use Rattle.std.proofs.lemmas.Grind.{common_steps}
use Rattle.terms.specs.Answers.{values}
use Rattle.terms.specs.Ladder.{◌when◌else◌}
use Rattle.terms.specs.Lists.{all}
use Rattle.wire.specs.BigEndian.{is_byte, bytes_of, bytes_of_each, number_at, numbers_at}
use Rattle.wire.proofs.RoundTrip.{number_small, peel, peel_each, length_numbers}
use Rattle.packet_read.specs.Flags.{bit}
use Rattle.packet_read.specs.Destination.{destination_in, signs_of, is_destination}
use Rattle.packet_read.specs.Options.{destination_begins, signature_at, signature_size, found}
use Rattle.packet_read.specs.Reading.{nack_count, flags_of, options_at, options_end, fields_read, read_of, fields_in, fields_of, spanned}
use Rattle.packet_read.specs.declared.Packet.{Packet}
use Rattle.packet_read.proofs.Form.{size_inside}
use Rattle.packet_read.proofs.Moved.{destination_alone}
use Rattle.packet_read.proofs.Looks.{nack_numbers}
use Rattle.packet_read.proofs.Readable.{Readable, readable}
use Rattle.packet_write.specs.Writing.{written, parts_unfit, signed_at, head_parts, if_there, option_parts, packet_bytes, write_of}
use Rattle.packet_write.specs.RoundTrip.{fields_again, WrittenBack}
use Rattle.packet_write.specs.declared.Fields.{Fields}
use Rattle.packet_write.proofs.Joins.{behind, options_length, packet_behind, length_options}

-- the list l, in front of what goes on as the packet does
in_front : (l : List ℕ) {r s t : List ℕ} → r ≡ s → l ++ s ≡ t → l ++ r ≡ t
in_front l e h = ap (λ (b : List ℕ). l ++ b) e ∙ h

-- a part in front of what stands behind it
peel_part : (p : List ℕ) (at n to : ℕ) → at + n ≡ to → take n (drop at p) ++ drop to p ≡ drop at p
peel_part p at n to e = rw (← e, ← drop-drop n at p) (take-append-drop n (drop at p))

length_part : (p : List ℕ) (at n : ℕ) → at + n ≤ length p → length (take n (drop at p)) ≡ n
length_part p at n h = length-take-le n (drop at p) (simp length-drop (omega arith))

module _ (p : List ℕ) (bytes : all is_byte p ≡ true) where
  peel_number : (k at to : ℕ) → at + k ≡ to → to ≤ length p → bytes_of k (number_at k at p) ++ drop to p ≡ drop at p
  peel_number k at to e h = rw (← e) (peel p bytes k at (omega arith))

  peel_option : (there : Bool) (at : ℕ) → at + (2 when there else 0) ≤ length p
      → if_there there (number_at 2 at p when there else 0) ++ drop (at + (2 when there else 0)) p ≡ drop at p
  peel_option true at h = peel p bytes 2 at h
  peel_option false at h = rw add-zero

-- a packet that is read with the fields v
module _ (p : List ℕ) (v : Packet) (bytes : all is_byte p ≡ true) (r : Readable p v) where
  abbrev n : ℕ
  n = nack_count p

  abbrev at : ℕ
  at = options_at p

  abbrev end : ℕ
  end = options_end p

  abbrev flags : ℕ
  flags = flags_of p

  abbrev from : ℕ
  from = destination_begins at flags

  abbrev place : ℕ
  place = signature_at at flags r.d.size

  abbrev signed : ℕ
  signed = signature_size p at end flags r.d

  abbrev read : Packet
  read = fields_read p n end flags (found p at end flags r.d)

  abbrev fields : Fields
  fields = fields_again read

  abbrev nacks : List ℕ
  nacks = numbers_at 4 n 17 p

  abbrev destination : List ℕ
  destination = spanned p read.destination

  abbrev signature : List ℕ
  signature = spanned p read.signature

  abbrev payload : List ℕ
  payload = spanned p read.payload

  destination_inside : from + r.d.size ≤ end
  destination_inside = size_inside p from end r.d (bit 5 flags) r.held.delay_fits r.held.there

  destination_long : length destination ≡ r.d.size
  destination_long = length_part p from r.d.size (omega (arith, destination_inside, r.options_fit))

  signature_long : length signature ≡ signed
  signature_long = length_part p place signed (omega (arith, r.held.signature_fits, r.options_fit))

  payload_is : payload ≡ drop end p
  payload_is = take_all (length p - end) (drop end p) (simp length-drop (omega arith))

  module _ (whole : place + signed ≡ end) where
    options_again : behind (option_parts fields destination signature) payload ≡ drop at p
    options_again =
        in_front (if_there (bit 6 flags) fields.delay)
        (in_front destination
        (in_front (if_there (bit 7 flags) fields.max_size) (in_front signature payload_is (peel_part p place signed end whole))
        (peel_option p bytes (bit 7 flags) (from + r.d.size) (omega (arith, r.held.max_fits, r.options_fit))))
        (peel_part p from r.d.size (from + r.d.size) refl))
        (peel_option p bytes (bit 6 flags) at (omega (arith, r.held.delay_fits, r.options_fit)))

    options_long : options_length fields destination signature ≡ number_at 2 (20 + 4 * n) p
    options_long = omega (arith, length_options fields destination signature, destination_long, signature_long, whole)

    packet_again : behind (head_parts fields nacks (options_length fields destination signature)) (behind (option_parts fields destination signature) payload) ≡ p
    packet_again =
        let fit = r.nacks_fit in
        rw (options_long, length_numbers 4 n 17 p)
        (in_front (bytes_of 4 (number_at 4 0 p))
        (in_front (bytes_of 4 (number_at 4 4 p))
        (in_front (bytes_of 4 (number_at 4 8 p))
        (in_front (bytes_of 4 (number_at 4 12 p))
        (in_front (bytes_of 1 n)
        (in_front (bytes_of_each 4 nacks)
        (in_front (bytes_of 1 (number_at 1 (17 + 4 * n) p))
        (in_front (bytes_of 2 flags)
        (in_front (bytes_of 2 (number_at 2 (20 + 4 * n) p)) options_again (peel_number p bytes 2 (20 + 4 * n) at (omega arith) fit))
        (peel_number p bytes 2 (18 + 4 * n) (20 + 4 * n) (omega arith) (omega arith)))
        (peel_number p bytes 1 (17 + 4 * n) (18 + 4 * n) (omega arith) (omega arith)))
        (peel_each p bytes 4 n 17 (omega arith)))
        (peel_number p bytes 1 16 17 refl (omega arith)))
        (peel_number p bytes 4 12 16 refl (omega arith)))
        (peel_number p bytes 4 8 12 refl (omega arith)))
        (peel_number p bytes 4 4 8 refl (omega arith)))
        (peel_number p bytes 4 0 4 refl (omega arith)))

    bytes_again : packet_bytes fields nacks destination signature payload ≡ p
    bytes_again = packet_behind fields nacks destination signature payload ∙ packet_again

    fit_again : parts_unfit fields destination signature ≡ false
    fit_again = let d = r.held.there in let a = destination_long in let b = signature_long in grind (arith, common_steps)

    -- where there is a destination, it is one by itself
    alone : bit 5 flags ≡ true → (signs_of destination ≡ r.d.signs) × (is_destination destination ≡ true)
    alone e =
        let there : destination_in p from end ≡ values (record { size = length destination; signs = r.d.signs }) =
        let d = r.held.there in let a = destination_long in grind (arith, common_steps) in
        destination_alone p destination (drop r.d.size (drop from p)) from end (sym (take-append-drop r.d.size (drop from p))) r.d.signs there

    form_again : (bit 5 flags && not (is_destination destination)) ≡ false
    form_again = grind (arith, common_steps, alone)

    signed_again : (bit 3 flags && (bit 5 flags && not (eqb (length signature) (signs_of destination)))) ≡ false
    signed_again = let b = signature_long in grind (arith, common_steps, alone)

    accepted_again : (room : ℕ) → length p ≤ room → write_of fields nacks destination signature payload room ≡ written (length p) (place when bit 3 flags else 0)
    unfolding write_of
    accepted_again room h =
        let m = length nacks in
        let em : m ≡ n = length_numbers 4 n 17 p in
        let few : m ≤ 255 = omega (arith, number_small p bytes 1 16 (omega arith)) in
        let ep : place ≡ signed_at fields nacks destination = omega (arith, destination_long) in
        let es : place + length signature + length payload ≡ length p = omega (arith, signature_long, ap length payload_is ∙ length-drop end p) in
        let off = r.held.online in
        let fit = fit_again in
        let form = form_again in
        let signs = signed_again in
        grind (arith, common_steps)

-- what was written of these fields and parts, as a record of the packet alone
record Again (p : List ℕ) (v : Packet) (nacks : List ℕ) : Type 0 where
  bytes_back : packet_bytes (fields_again v) nacks (spanned p v.destination) (spanned p v.signature) (spanned p v.payload) ≡ p
  accepted : (room : ℕ) → length p ≤ room
      → write_of (fields_again v) nacks (spanned p v.destination) (spanned p v.signature) (spanned p v.payload) room
      ≡ written (length p) (v.signature.at when bit 3 v.flags else 0)

-- The theorem: for every packet of bytes that reads without refusal and without leftover option bytes.
pub writes_back : (p : List ℕ) (v : Packet) → all is_byte p ≡ true → read_of p ≡ values v → v.leftover ≡ 0 → WrittenBack p v
writes_back p v bytes h left =
    let r = readable p v h in
    let none : end p v bytes r - (place p v bytes r + signed p v bytes r) ≡ 0 = sym (ap (λ (x : Packet). x.leftover) r.is) ∙ left in
    let whole : place p v bytes r + signed p v bytes r ≡ end p v bytes r = omega (arith, none, r.held.signature_fits) in
    let first : Again p (read p v bytes r) (nacks p v bytes r) = record { bytes_back = bytes_again p v bytes r whole; accepted = accepted_again p v bytes r whole } in
    let is : fields_of p ≡ v = ap fields_in h in
    let numbers : numbers_at 4 (length (spanned p v.nacks) / 4) 0 (spanned p v.nacks) ≡ nacks p v bytes r =
    sym (ap (λ (x : Packet). numbers_at 4 (length (spanned p x.nacks) / 4) 0 (spanned p x.nacks)) is) ∙ nack_numbers p v h in
    let again = subst (Again p v) (sym numbers) (subst (λ (x : Packet). Again p x (nacks p v bytes r)) (sym r.is) first) in
    record {
      bytes_back = rw is again.bytes_back;
      accepted = λ room fits. rw is (again.accepted room fits);
      output_back = λ output fits. rw (is, again.accepted (length output) fits, again.bytes_back);
    }
