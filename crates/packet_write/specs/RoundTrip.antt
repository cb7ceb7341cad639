-- Reading and writing undo each other: what is promised of a packet that was written and is read, and of one that was read and is written.
use Rattle.std.specs.Prelude.{ℕ, ◌+◌, ◌*◌, ◌^◌, ◌≤◌, ◌<◌, ◌≡◌, List, length, take}
use Rattle.terms.specs.Answers.{values}
use Rattle.terms.specs.Ladder.{◌when◌else◌}
use Rattle.terms.specs.Lists.{◌at_front_of◌}
use Rattle.wire.specs.BigEndian.{bytes_of_each}
use Rattle.packet_read.specs.Flags.{bit}
use Rattle.packet_read.specs.Options.{destination_begins}
use Rattle.packet_read.specs.Reading.{read_of, nacks_of, nack_numbers_of, destination_of, signature_of, payload_of}
use Rattle.packet_read.specs.declared.Packet.{Packet}
use Rattle.packet_write.specs.Writing.{written, signed_at, packet_bytes, write_of, output_after}
use Rattle.packet_write.specs.declared.Fields.{Fields}
use Rattle.packet_write.specs.declared.Written.{Written}

-- WRITTEN, THEN READ

-- the numbers fit their widths, as those of the code do
pub record Ranged (f : Fields) : Type 0 where
  pub send_fits : f.send_stream_id.0 < 2 ^ 32
  pub recv_fits : f.recv_stream_id.0 < 2 ^ 32
  pub seq_fits : f.seq_nro.0 < 2 ^ 32
  pub ack_fits : f.ack_through.0 < 2 ^ 32
  pub resend_fits : f.resend_delay < 2 ^ 8
  pub flags_fit : f.flags < 2 ^ 16
  pub delay_fits : f.delay < 2 ^ 16
  pub max_fits : f.max_size < 2 ^ 16

module _ (f : Fields) (nacks destination signature payload : List ℕ) where
  -- the reader's record of what was given
  abbrev pub given : Packet
  given = record {
    send_stream_id = f.send_stream_id;
    recv_stream_id = f.recv_stream_id;
    seq_nro = f.seq_nro;
    ack_through = f.ack_through;
    nacks = record { at = 17; len = 4 * length nacks };
    resend_delay = f.resend_delay;
    flags = f.flags;
    delay = f.delay;
    destination = record { at = destination_begins (22 + 4 * length nacks) f.flags; len = length destination };
    max_size = f.max_size;
    signature = record { at = signed_at f nacks destination; len = length signature };
    leftover = 0;
    payload = record { at = signed_at f nacks destination + length signature; len = length payload };
  }

  -- The packet p reads back as what was given: every field, the places of the parts, no leftover, and each part as a list.
  pub record ReadBack (p : List ℕ) : Type 0 where
    pub fields_back : read_of p ≡ values given
    pub nack_bytes_back : nacks_of p ≡ bytes_of_each 4 nacks
    pub nacks_back : nack_numbers_of p ≡ nacks
    pub destination_back : destination_of p ≡ destination
    pub signature_back : signature_of p ≡ signature
    pub payload_back : payload_of p ≡ payload

  -- What the answer w leaves in the output: the packet at its front, as long as w says, with the signature where w says.
  pub record OutputBack (output : List ℕ) (w : Written) : Type 0 where
    pub read_back : ReadBack (packet_bytes f nacks destination signature payload)
    pub begins : take w.length (output_after f nacks destination signature payload output) ≡ packet_bytes f nacks destination signature payload
    pub long : length (packet_bytes f nacks destination signature payload) ≡ w.length
    pub signature_there : w.signature_at ≡ (given.signature.at when bit 3 f.flags else 0)

-- READ, THEN WRITTEN

-- the writer's fields, taken from what was read
abbrev pub fields_again : Packet → Fields
fields_again v = record {
  send_stream_id = v.send_stream_id;
  recv_stream_id = v.recv_stream_id;
  seq_nro = v.seq_nro;
  ack_through = v.ack_through;
  resend_delay = v.resend_delay;
  flags = v.flags;
  delay = v.delay;
  max_size = v.max_size;
}

-- The packet p, read with the fields v, written again from what was read of it: the same bytes, accepted wherever there is room, and left
-- at the output's front.
pub record WrittenBack (p : List ℕ) (v : Packet) : Type 0 where
  pub bytes_back : packet_bytes (fields_again v) (nack_numbers_of p) (destination_of p) (signature_of p) (payload_of p) ≡ p
  pub accepted : (room : ℕ) → length p ≤ room
      → write_of (fields_again v) (nack_numbers_of p) (destination_of p) (signature_of p) (payload_of p) room ≡ written (length p) (v.signature.at when bit 3 v.flags else 0)
  pub output_back : (output : List ℕ) → length p ≤ length output
      → output_after (fields_again v) (nack_numbers_of p) (destination_of p) (signature_of p) (payload_of p) output ≡ p at_front_of output
