-- Reading looks at nothing else: what is read follows from the packet's length and its bytes up to the end of its option area, since
-- each number that is looked at lies before that end. So the payload's bytes do not matter to the fields. Assumes nothing.
use Prim.Native.Nat.{ℕ, ◌+◌, ◌-◌, ◌*◌, ◌≤◌}
use mathlib.Core.Path.{◌≡◌, sym, ◌∙◌, ap}
use mathlib.Core.List.{List, ◌++◌}
use native.Mathlib.Omega.{arith}
use lib.Dec.{ltb}
use lib.ListN.{length, take, drop, take-append-drop}
use lib.Seq.{length-take-le}
use Rattle.std.proofs.lemmas.Grind.{common_steps}
use Rattle.std.proofs.lemmas.List.{drop-take}
use Rattle.terms.specs.Answers.{refusal, values}
use Rattle.terms.specs.Ladder.{◌when◌else◌}
use Rattle.wire.specs.BigEndian.{number_at, numbers_at}
use Rattle.wire.proofs.RoundTrip.{numbers_moved}
use Rattle.packet_read.specs.Going.{◌and_then◌}
use Rattle.packet_read.specs.Destination.{destination_in}
use Rattle.packet_read.specs.Options.{destination_begins, max_at, after_destination, options_in}
use Rattle.packet_read.specs.Reading.{nack_count, flags_of, options_at, options_end, fields_read, with_options, read_of, nack_numbers_of}
use Rattle.packet_read.specs.Parts.{PartsAre}
use Rattle.packet_read.specs.declared.Destination.{Destination}
use Rattle.packet_read.specs.declared.Found.{Found}
use Rattle.packet_read.specs.declared.Packet.{Packet}
use Rattle.packet_read.proofs.Readable.{readable}

number_within : (k i end : ℕ) (p : List ℕ) → i + k ≤ end → number_at k i (take end p) ≡ number_at k i p
number_within k i end p h = grind (arith, common_steps, drop-take i (end - i) p)

-- p and q agree at each number that lies before `end`
module _ (p q : List ℕ) (end : ℕ) (same : (k i : ℕ) → i + k ≤ end → number_at k i p ≡ number_at k i q) where
  destination_alike : (at : ℕ) → destination_in p at end ≡ destination_in q at end
  unfolding destination_in
  destination_alike at = grind (arith, common_steps, same 1 (at + 384), same 2 (at + 385), same 2 (at + 387))

  after_alike : (at flags : ℕ) (d : Destination) → destination_begins at flags ≤ end → after_destination p at end flags d ≡ after_destination q at end flags d
  unfolding after_destination
  after_alike at flags d h = grind (arith, common_steps, same 2 at, same 2 (max_at at flags d.size))

  options_alike : (at flags : ℕ) → options_in p at end flags ≡ options_in q at end flags
  unfolding options_in
  options_alike at flags = grind (arith, common_steps, destination_alike, after_alike)

  fields_alike : (n flags : ℕ) (f : Found) → length p ≡ length q → 22 + 4 * n ≤ end → fields_read p n end flags f ≡ fields_read q n end flags f
  fields_alike n flags f l h = grind (arith, common_steps, same 4 0, same 4 4, same 4 8, same 4 12, same 1 (17 + 4 * n))

-- so the options are those of the packet cut at their end
pub options_cut : (p : List ℕ) (at end flags : ℕ) → end ≤ length p → options_in (take end p) at (length (take end p)) flags ≡ options_in p at end flags
options_cut p at end flags h = rw (length-take-le end p h) (options_alike (take end p) p end (λ k i f. number_within k i end p f) at flags)

-- the law: packets of the same length that agree up to the end of the first one's option area read alike
pub reads_alike : (p q : List ℕ) → length p ≡ length q → take (options_end p) p ≡ take (options_end p) q → read_of p ≡ read_of q
unfolding read_of
reads_alike p q l e =
    let n = nack_count p in
    let end = options_end p in
    let same : (k i : ℕ) → i + k ≤ end → number_at k i p ≡ number_at k i q =
    λ k i h. sym (number_within k i end p h) ∙ ap (number_at k i) e ∙ number_within k i end q h in
    let en : n ≡ nack_count q = same 1 16 (omega arith) in
    let eo : number_at 2 (20 + 4 * n) p ≡ number_at 2 (20 + 4 * nack_count q) q = same 2 (20 + 4 * n) (omega arith) ∙ rw en in
    let ef : flags_of p ≡ flags_of q = same 2 (18 + 4 * n) (omega arith) ∙ rw en in
    let ee : end ≡ options_end q = omega arith in
    let options : options_in p (options_at p) end (flags_of p) ≡ options_in q (options_at q) (options_end q) (flags_of q) =
    options_alike p q end same (options_at p) (flags_of p) ∙ rw (ee, ef, en) in
    let fields : (f : Found) → with_options p f ≡ with_options q f =
    λ f. ap values (fields_alike p q end same n (flags_of p) f l (omega arith) ∙ rw (ee, ef, en)) in
    λ i.
    refusal 2 when ltb 65535 (l i) else
    refusal 1 when ltb (l i) 22 else
    refusal 1 when ltb (l i) (22 + 4 * en i) else
    refusal 1 when ltb (l i) (ee i) else
    (options i and_then λ f. fields f i)

-- so another payload as long changes no field
pub payload_apart : (p payload : List ℕ) → options_end p + length payload ≡ length p → read_of p ≡ read_of (take (options_end p) p ++ payload)
payload_apart p payload h =
    let front : length (take (options_end p) p) ≡ options_end p = grind (arith, common_steps) in
    reads_alike p (take (options_end p) p ++ payload) (grind (arith, common_steps)) (grind (arith, common_steps))

-- where the read is not refused
pub parts_are : (p : List ℕ) (v : Packet) → read_of p ≡ values v → PartsAre p v
parts_are p v h =
    let r = readable p v h in
    record {
      nacks_are = grind (arith, common_steps);
      d = r.d;
      found_there = r.held.there;
      destination_is = grind (arith, common_steps);
      signature_is = grind (arith, common_steps);
      payload_is = grind (arith, common_steps);
    }

-- the NACKs as numbers stand from 17 on
pub nack_numbers : (p : List ℕ) (v : Packet) → read_of p ≡ values v → nack_numbers_of p ≡ numbers_at 4 (nack_count p) 17 p
nack_numbers p v h =
    let r = readable p v h in
    let n = nack_count p in
    grind (arith, common_steps, numbers_moved 4 n 0 17 p (take (4 * n) (drop 17 p)) (drop (4 * n) (drop 17 p)), take-append-drop (4 * n) (drop 17 p))
