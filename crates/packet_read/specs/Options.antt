-- The option area, in wire order: delay (2), destination, maximum size (2), offline block, signature.
-- An option is there where its bit is set; an absent one has no byte, and its number is 0.
use Rattle.std.specs.Prelude.{ℕ, ◌+◌, ◌-◌, ◌&&◌, not, List, ltb}
use Rattle.terms.specs.Answers.{Saying, refusal, values}
use Rattle.terms.specs.Ladder.{◌when◌else◌}
use Rattle.wire.specs.BigEndian.{number_at}
use Rattle.packet_read.specs.Going.{◌and_then◌}
use Rattle.packet_read.specs.Flags.{bit}
use Rattle.packet_read.specs.Destination.{destination_in}
use Rattle.packet_read.specs.declared.Destination.{Destination}
use Rattle.packet_read.specs.declared.Found.{Found}

-- an option area that starts at `at`
module _ (at flags : ℕ) where
  abbrev pub destination_begins : ℕ
  destination_begins = at + (2 when bit 6 flags else 0)

  -- after a destination of `size` bytes
  abbrev pub max_at : ℕ → ℕ
  max_at size = destination_begins + size

  abbrev pub signature_at : ℕ → ℕ
  signature_at size = max_at size + (2 when bit 7 flags else 0)

abbrev pub no_destination : Destination
no_destination = record { size = 0; signs = 0 }

-- of the packet p, up to `end`
module _ (p : List ℕ) (at end flags : ℕ) where
  -- the destination, or that of no byte where it is absent
  abbrev pub destination_there : Saying Destination
  destination_there = destination_in p (destination_begins at flags) end when bit 5 flags else values no_destination

  -- what follows the destination d
  module _ (d : Destination) where
    -- as long as its signatures are; without a destination, all the option bytes that remain
    abbrev pub signature_size : ℕ
    signature_size = (d.signs when bit 5 flags else (end - signature_at at flags d.size)) when bit 3 flags else 0

    abbrev pub found : Found
    found = record {
      delay = number_at 2 at p when bit 6 flags else 0;
      destination = record { at = destination_begins at flags; len = d.size };
      max_size = number_at 2 (max_at at flags d.size) p when bit 7 flags else 0;
      signature = record { at = signature_at at flags d.size; len = signature_size };
      leftover = end - (signature_at at flags d.size + signature_size);
    }

    unfoldable pub after_destination : Saying Found
    after_destination =
        -- option area ends inside the maximum size
        refusal 3 when ltb end (signature_at at flags d.size) else
        -- bit 11 without bit 5
        refusal 5 when bit 11 flags && not (bit 5 flags) else
        -- bit 11 with bit 5
        refusal 6 when bit 11 flags && bit 5 flags else
        -- option area ends inside the signature
        refusal 3 when ltb end (signature_at at flags d.size + signature_size) else
        values found

  unfoldable pub options_in : Saying Found
  options_in =
      -- option area ends inside the delay
      refusal 3 when ltb end (destination_begins at flags) else
      (destination_there and_then after_destination)
