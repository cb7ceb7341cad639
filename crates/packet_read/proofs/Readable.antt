-- What holds of a packet whose read is not refused: it passed every rung, so its lengths fit, each option that is flagged lies inside
-- the option area, and the answer is the record of its fields. Assumes nothing.
use Rattle.std.proofs.Common.{ℕ, ◌≡◌, ◌+◌, ◌≤◌, false, List, length, arith}
use Rattle.std.proofs.lemmas.Grind.{common_steps}
use Rattle.terms.specs.Answers.{values}
use Rattle.packet_read.specs.Flags.{bit}
use Rattle.packet_read.specs.Options.{destination_begins, signature_at, destination_there, signature_size, found, after_destination, options_in}
use Rattle.packet_read.specs.Reading.{nack_count, flags_of, options_at, options_end, fields_read, read_of}
use Rattle.packet_read.specs.declared.Destination.{Destination}
use Rattle.packet_read.specs.declared.Found.{Found}
use Rattle.packet_read.specs.declared.Packet.{Packet}

-- behind the destination d, the option area from `at` to `end` holds what is flagged
pub record Held (p : List ℕ) (at end flags : ℕ) (d : Destination) : Type 0 where
  pub delay_fits : destination_begins at flags ≤ end
  pub there : destination_there p at end flags ≡ values d
  pub max_fits : signature_at at flags d.size ≤ end
  pub online : bit 11 flags ≡ false
  pub signature_fits : signature_at at flags d.size + signature_size p at end flags d ≤ end

-- the packet p was read, with the fields v
pub record Readable (p : List ℕ) (v : Packet) : Type 0 where
  pub short : length p ≤ 65535
  pub long : 22 ≤ length p
  pub nacks_fit : options_at p ≤ length p
  pub options_fit : options_end p ≤ length p
  pub d : Destination
  pub held : Held p (options_at p) (options_end p) (flags_of p) d
  pub is : v ≡ fields_read p (nack_count p) (options_end p) (flags_of p) (found p (options_at p) (options_end p) (flags_of p) d)

-- the option area that was found, and the destination in it
found_in : (p : List ℕ) (at end flags : ℕ) (f : Found) → options_in p at end flags ≡ values f → (d : Destination) × Held p at end flags d × (f ≡ found p at end flags d)
unfolding options_in after_destination
found_in p at end flags f h = grind (arith, common_steps)

-- a packet that is read passed every rung
pub readable : (p : List ℕ) (v : Packet) → read_of p ≡ values v → Readable p v
unfolding read_of
readable p v h =
    let g : (f : Found) × (options_in p (options_at p) (options_end p) (flags_of p) ≡ values f) × (v ≡ fields_read p (nack_count p) (options_end p) (flags_of p) f) =
    grind (arith, common_steps) in
    let o = found_in p (options_at p) (options_end p) (flags_of p) g.0 g.1 in
    record {
      short = grind (arith, common_steps);
      long = grind (arith, common_steps);
      nacks_fit = grind (arith, common_steps);
      options_fit = grind (arith, common_steps);
      d = o.0;
      held = o.1;
      is = cc;
    }
