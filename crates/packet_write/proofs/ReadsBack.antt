-- What was written reads back: the reader's answer for a packet that `write` wrote is exactly the fields and parts that it was given,
-- with no leftover. Each part stands where the last one ended, so the reader finds it there, number by number and part by part; a part
-- whose bit is clear was empty, and a number whose bit is clear was 0. Assumes nothing.
use Prim.Native.Nat.{ℕ, ◌+◌, ◌-◌, ◌*◌, ◌/◌, ◌^◌, ◌≤◌, ◌<◌}
use mathlib.Core.Path.{◌≡◌, refl, sym, ap}
use mathlib.Core.Bool.{Bool, true, false, ◌&&◌, not}
use mathlib.Core.List.{List, [], ◌∷◌, ◌++◌, append-nil}
use native.Mathlib.Nat.{add-zero}
use native.Mathlib.Omega.{arith}
use lib.Dec.{eqb}
use lib.ListN.{length, take, drop}
use lib.Seq.{take_at, take-length}
use Rattle.std.proofs.lemmas.Grind.{common_steps}
use Rattle.terms.specs.Answers.{values}
use Rattle.terms.specs.Ladder.{◌when◌else◌}
use Rattle.terms.specs.Lists.{all}
use Rattle.wire.specs.BigEndian.{bytes_of, bytes_of_each, number_at}
use Rattle.wire.proofs.Laws.{length_bytes, length_each}
use Rattle.wire.proofs.RoundTrip.{past, part_here, number_here, fits, each_numbers}
use Rattle.packet_read.specs.Flags.{bit}
use Rattle.packet_read.specs.Destination.{destination_in, signs_of, is_destination}
use Rattle.packet_read.specs.Options.{destination_begins, after_destination, options_in}
use Rattle.packet_read.specs.Reading.{nack_count, fields_read, read_of, nacks_of}
use Rattle.packet_read.specs.declared.Found.{Found}
use Rattle.packet_read.proofs.Moved.{destination_found}
use Rattle.packet_write.specs.Writing.{parts_unfit, signed_at, head_parts, if_there, option_parts, packet_bytes, write_of}
use Rattle.packet_write.specs.RoundTrip.{Ranged, given, ReadBack, OutputBack}
use Rattle.packet_write.specs.declared.Fields.{Fields}
use Rattle.packet_write.specs.declared.Written.{Written}
use Rattle.packet_write.proofs.Joins.{behind, options_length, packet_behind, length_packet, length_options}
use Rattle.packet_write.proofs.Passed.{passed}

-- a number where it stands, and what stands behind it
field : (k x at to : ℕ) (p : List ℕ) (ls : List (List ℕ)) (r : List ℕ) → x < 256 ^ k → at + k ≡ to → drop at p ≡ behind (bytes_of k x ∷ ls) r
    → (number_at k at p ≡ x) × (drop to p ≡ behind ls r)
field k x at to p ls r h t e = (number_here k x at p (behind ls r) h e, past at k to p (bytes_of k x) (behind ls r) e (length_bytes k x) t)

-- the same of an option's number
option : (there : Bool) (x at : ℕ) (p r : List ℕ) → x < 2 ^ 16 → (there ≡ false → x ≡ 0) → drop at p ≡ if_there there x ++ r
    → ((number_at 2 at p when there else 0) ≡ x) × (drop (at + (2 when there else 0)) p ≡ r)
option true x at p r h z e = field 2 x at (at + 2) p [] r h refl e
option false x at p r h z e = (sym (z refl), rw add-zero e)

-- what is given for a clear bit is 0 or empty
record Clear (f : Fields) (destination signature : List ℕ) : Type 0 where
  no_delay : bit 6 f.flags ≡ false → f.delay ≡ 0
  no_destination_there : bit 5 f.flags ≡ false → length destination ≡ 0
  no_max : bit 7 f.flags ≡ false → f.max_size ≡ 0
  no_signature : bit 3 f.flags ≡ false → length signature ≡ 0

clear : (f : Fields) (destination signature : List ℕ) → parts_unfit f destination signature ≡ false → Clear f destination signature
clear f destination signature h = grind (arith, common_steps)

-- every field before the options, and what stands behind them
record Head (f : Fields) (nacks : List ℕ) (options : ℕ) (r p : List ℕ) : Type 0 where
  send_is : number_at 4 0 p ≡ f.send_stream_id.0
  recv_is : number_at 4 4 p ≡ f.recv_stream_id.0
  seq_is : number_at 4 8 p ≡ f.seq_nro.0
  ack_is : number_at 4 12 p ≡ f.ack_through.0
  count_is : nack_count p ≡ length nacks
  nack_bytes : take (4 * length nacks) (drop 17 p) ≡ bytes_of_each 4 nacks
  resend_is : number_at 1 (17 + 4 * length nacks) p ≡ f.resend_delay
  flags_are : number_at 2 (18 + 4 * length nacks) p ≡ f.flags
  options_are : number_at 2 (20 + 4 * length nacks) p ≡ options
  then_options : drop (22 + 4 * length nacks) p ≡ r

head_back : (f : Fields) (nacks : List ℕ) (options : ℕ) (r p : List ℕ) → Ranged f → length nacks ≤ 255 → options < 2 ^ 16
    → p ≡ behind (head_parts f nacks options) r → Head f nacks options r p
head_back f nacks options r p ranged few small is =
    let n = length nacks in
    let ls = head_parts f nacks options in
    let a = field 4 f.send_stream_id.0 0 4 p (drop 1 ls) r ranged.send_fits refl is in
    let b = field 4 f.recv_stream_id.0 4 8 p (drop 2 ls) r ranged.recv_fits refl a.1 in
    let c = field 4 f.seq_nro.0 8 12 p (drop 3 ls) r ranged.seq_fits refl b.1 in
    let d = field 4 f.ack_through.0 12 16 p (drop 4 ls) r ranged.ack_fits refl c.1 in
    let e = field 1 n 16 17 p (drop 5 ls) r (omega arith) refl d.1 in
    let g : drop (17 + 4 * n) p ≡ behind (drop 6 ls) r = past 17 (4 * n) (17 + 4 * n) p (bytes_of_each 4 nacks) (behind (drop 6 ls) r) e.1 (length_each 4 nacks) refl in
    let h = field 1 f.resend_delay (17 + 4 * n) (18 + 4 * n) p (drop 7 ls) r ranged.resend_fits (omega arith) g in
    let i = field 2 f.flags (18 + 4 * n) (20 + 4 * n) p (drop 8 ls) r ranged.flags_fit (omega arith) h.1 in
    let j = field 2 options (20 + 4 * n) (22 + 4 * n) p [] r small (omega arith) i.1 in
    record {
      send_is = a.0;
      recv_is = b.0;
      seq_is = c.0;
      ack_is = d.0;
      count_is = e.0;
      nack_bytes = part_here 17 (4 * n) p (bytes_of_each 4 nacks) (behind (drop 6 ls) r) e.1 (length_each 4 nacks);
      resend_is = h.0;
      flags_are = i.0;
      options_are = j.0;
      then_options = j.1;
    }

-- the options that begin at `at`, and the payload behind them
record Tail (f : Fields) (destination signature payload : List ℕ) (at : ℕ) (p : List ℕ) : Type 0 where
  delay_is : (number_at 2 at p when bit 6 f.flags else 0) ≡ f.delay
  destination_here : drop (destination_begins at f.flags) p ≡ destination ++ (if_there (bit 7 f.flags) f.max_size ++ (signature ++ payload))
  max_is : (number_at 2 (destination_begins at f.flags + length destination) p when bit 7 f.flags else 0) ≡ f.max_size
  signature_here : drop (destination_begins at f.flags + length destination + (2 when bit 7 f.flags else 0)) p ≡ signature ++ payload
  payload_here : drop (destination_begins at f.flags + length destination + (2 when bit 7 f.flags else 0) + length signature) p ≡ payload

tail_back : (f : Fields) (destination signature payload : List ℕ) (at : ℕ) (p : List ℕ) → Ranged f → Clear f destination signature
    → drop at p ≡ behind (option_parts f destination signature) payload → Tail f destination signature payload at p
tail_back f destination signature payload at p ranged none is =
    let from = destination_begins at f.flags in
    let max-at = from + length destination in
    let place = max-at + (2 when bit 7 f.flags else 0) in
    let rest = signature ++ payload in
    let a = option (bit 6 f.flags) f.delay at p (destination ++ (if_there (bit 7 f.flags) f.max_size ++ rest)) ranged.delay_fits none.no_delay is in
    let b = past from (length destination) max-at p destination (if_there (bit 7 f.flags) f.max_size ++ rest) a.1 refl refl in
    let c = option (bit 7 f.flags) f.max_size max-at p rest ranged.max_fits none.no_max b in
    record {
      delay_is = a.0;
      destination_here = a.1;
      max_is = c.0;
      signature_here = c.1;
      payload_here = past place (length signature) (place + length signature) p signature payload c.1 refl refl;
    }

-- the record that the reader finds in the option area
abbrev found_back : Fields → List ℕ → List ℕ → List ℕ → Found
found_back f nacks destination signature = record {
  delay = f.delay;
  destination = record { at = destination_begins (22 + 4 * length nacks) f.flags; len = length destination };
  max_size = f.max_size;
  signature = record { at = signed_at f nacks destination; len = length signature };
  leftover = 0;
}

module _ (f : Fields) (nacks destination signature payload p : List ℕ) (head : Head f nacks (options_length f destination signature) (behind (option_parts f destination signature) payload) p)
    (tail : Tail f destination signature payload (22 + 4 * length nacks) p) (none : Clear f destination signature) where
  options_back : bit 11 f.flags ≡ false → (bit 5 f.flags && not (is_destination destination)) ≡ false
      → (bit 3 f.flags && (bit 5 f.flags && not (eqb (length signature) (signs_of destination)))) ≡ false
      → values (found_back f nacks destination signature)
      ≡ options_in p (22 + 4 * length nacks) (22 + 4 * length nacks + options_length f destination signature) f.flags
  unfolding options_in after_destination
  options_back online form signed =
      let from = destination_begins (22 + 4 * length nacks) f.flags in
      let end = 22 + 4 * length nacks + options_length f destination signature in
      let long = length_options f destination signature in
      let found : is_destination destination ≡ true → destination_in p from end ≡ values (record { size = length destination; signs = signs_of destination }) =
      λ t. destination_found p destination (if_there (bit 7 f.flags) f.max_size ++ (signature ++ payload)) from end tail.destination_here t (omega (arith, long)) in
      grind (arith, common_steps)

  fields_given : options_length f destination signature ≡ (2 when bit 6 f.flags else 0) + length destination + (2 when bit 7 f.flags else 0) + length signature
      → length p ≡ 22 + 4 * length nacks + options_length f destination signature + length payload
      → fields_read p (length nacks) (22 + 4 * length nacks + options_length f destination signature) f.flags (found_back f nacks destination signature)
      ≡ given f nacks destination signature payload
  fields_given long whole =
      let e : 22 + 4 * length nacks + options_length f destination signature ≡ signed_at f nacks destination + length signature = omega arith in
      let l : length p - (signed_at f nacks destination + length signature) ≡ length payload = omega arith in
      rw (e, l, head.send_is, head.recv_is, head.seq_is, head.ack_is, head.resend_is)

-- so the answer is that record
said_back : (f : Fields) (nacks destination signature payload p : List ℕ) → length p ≤ 65535
    → length p ≡ 22 + 4 * length nacks + options_length f destination signature + length payload
    → Head f nacks (options_length f destination signature) (behind (option_parts f destination signature) payload) p
    → values (found_back f nacks destination signature) ≡ options_in p (22 + 4 * length nacks) (22 + 4 * length nacks + options_length f destination signature) f.flags
    → fields_read p (length nacks) (22 + 4 * length nacks + options_length f destination signature) f.flags (found_back f nacks destination signature) ≡ given f nacks destination signature payload
    → read_of p ≡ values (given f nacks destination signature payload)
unfolding read_of
said_back f nacks destination signature payload p short whole head options fields = grind (arith, common_steps)

-- The theorem: for fields and NACKs that fit their widths, any destination, signature and payload and any room, a packet that is not
-- refused reads back as what was given.
pub reads_back : (f : Fields) (nacks destination signature payload : List ℕ) (room : ℕ) (w : Written) → Ranged f → all (fits 4) nacks ≡ true
    → write_of f nacks destination signature payload room ≡ values w → ReadBack f nacks destination signature payload (packet_bytes f nacks destination signature payload)
reads_back f nacks destination signature payload room w ranged fit h =
    let p = packet_bytes f nacks destination signature payload in
    let n = length nacks in
    let o = options_length f destination signature in
    let r = behind (option_parts f destination signature) payload in
    let ok = passed f nacks destination signature payload room w h in
    let long = length_options f destination signature in
    let whole = length_packet f nacks destination signature payload in
    let none = clear f destination signature ok.fit in
    let head = head_back f nacks o r p ranged ok.fitting.few (omega (arith, long, ok.fitting.short)) (packet_behind f nacks destination signature payload) in
    let tail = tail_back f destination signature payload (22 + 4 * n) p ranged none head.then_options in
    let found = found_back f nacks destination signature in
    let options = options_back f nacks destination signature payload p head tail none ok.online ok.form ok.signed in
    let fields = fields_given f nacks destination signature payload p head tail none long whole in
    let answer : read_of p ≡ values (given f nacks destination signature payload) = said_back f nacks destination signature payload p (omega (arith, long, whole, ok.fitting.short)) whole head options fields in
    let nack_bytes : nacks_of p ≡ bytes_of_each 4 nacks = rw answer head.nack_bytes in
    let four : 4 * n / 4 ≡ n = omega arith in
    record {
      fields_back = answer;
      nack_bytes_back = nack_bytes;
      nacks_back = rw (nack_bytes, length_each 4 nacks, four) (rw append-nil at (each_numbers nacks [] fit));
      destination_back =
          rw answer
          (part_here (destination_begins (22 + 4 * n) f.flags) (length destination) p destination (if_there (bit 7 f.flags) f.max_size ++ (signature ++ payload)) tail.destination_here refl);
      signature_back = rw answer (part_here (signed_at f nacks destination) (length signature) p signature payload tail.signature_here refl);
      payload_back = rw (answer, tail.payload_here) (take-length payload);
    }

-- and it is what the output begins with
pub output_reads_back : (f : Fields) (nacks destination signature payload output : List ℕ) (w : Written) → Ranged f → all (fits 4) nacks ≡ true
    → write_of f nacks destination signature payload (length output) ≡ values w → OutputBack f nacks destination signature payload output w
output_reads_back f nacks destination signature payload output w ranged fit h =
    let p = packet_bytes f nacks destination signature payload in
    let ok = passed f nacks destination signature payload (length output) w h in
    let long : length p ≡ w.length =
    omega (arith, length_packet f nacks destination signature payload, length_options f destination signature, ap (λ (x : Written). x.length) ok.is) in
    record {
      read_back = reads_back f nacks destination signature payload (length output) w ranged fit h;
      begins = rw h (take_at p (drop (length p) output) w.length long);
      long = long;
      signature_there = ap (λ (x : Written). x.signature_at) ok.is;
    }
