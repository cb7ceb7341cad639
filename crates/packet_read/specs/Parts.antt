-- What each part of a packet that is read is, as a list: where it begins and where it ends, by the packet's own numbers.
use Rattle.std.specs.Prelude.{ℕ, ◌+◌, ◌*◌, ◌≡◌, List, drop}
use Rattle.terms.specs.Answers.{values}
use Rattle.terms.specs.Lists.{part}
use Rattle.packet_read.specs.Options.{destination_begins, max_at, signature_at, destination_there, signature_size}
use Rattle.packet_read.specs.Reading.{nack_count, flags_of, options_at, options_end, nacks_of, destination_of, signature_of, payload_of}
use Rattle.packet_read.specs.declared.Destination.{Destination}
use Rattle.packet_read.specs.declared.Packet.{Packet}

-- of the packet p, that is read with the fields v, and whose destination is d
pub record PartsAre (p : List ℕ) (v : Packet) : Type 0 where
  pub nacks_are : nacks_of p ≡ part p 17 (17 + 4 * nack_count p)
  pub d : Destination
  pub found_there : destination_there p (options_at p) (options_end p) (flags_of p) ≡ values d
  pub destination_is : destination_of p ≡ part p (destination_begins (options_at p) (flags_of p)) (max_at (options_at p) (flags_of p) d.size)
  pub signature_is : signature_of p
      ≡ part p (signature_at (options_at p) (flags_of p) d.size)
      (signature_at (options_at p) (flags_of p) d.size + signature_size p (options_at p) (options_end p) (flags_of p) d)
  pub payload_is : payload_of p ≡ drop (options_end p) p
