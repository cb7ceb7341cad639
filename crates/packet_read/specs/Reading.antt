-- Reading a packet, from document 01's "Packet on the wire": big-endian, send stream id 4, receive stream id 4, sequence number 4,
-- ack-through 4, NACK count n (1), n NACKs of 4, resend delay 1, flags 2, option length o (2), o option bytes, then payload to the end.
use Rattle.std.specs.Prelude.{ℕ, ◌+◌, ◌-◌, ◌*◌, ◌/◌, List, ltb, length, take, drop}
use Rattle.terms.specs.Answers.{Saying, refusal, values}
use Rattle.terms.specs.Ladder.{◌when◌else◌}
use Rattle.wire.specs.BigEndian.{number_at, numbers_at}
use Rattle.packet_read.specs.Going.{◌and_then◌}
use Rattle.packet_read.specs.Options.{options_in}
use Rattle.packet_read.specs.declared.Span.{Span}
use Rattle.packet_read.specs.declared.Packet.{Packet}
use Rattle.packet_read.specs.declared.Found.{Found}

-- n
abbrev pub nack_count : List ℕ → ℕ
nack_count p = number_at 1 16 p

abbrev pub flags_of : List ℕ → ℕ
flags_of p = number_at 2 (18 + 4 * nack_count p) p

abbrev pub options_at : List ℕ → ℕ
options_at p = 22 + 4 * nack_count p

-- 22 + 4n + o
abbrev pub options_end : List ℕ → ℕ
options_end p = options_at p + number_at 2 (20 + 4 * nack_count p) p

-- the fields of a packet with n NACKs, whose option area ends at `end`
abbrev pub fields_read : List ℕ → ℕ → ℕ → ℕ → Found → Packet
fields_read p n end flags found = record {
  send_stream_id = record { 0 = number_at 4 0 p };
  recv_stream_id = record { 0 = number_at 4 4 p };
  seq_nro = record { 0 = number_at 4 8 p };
  ack_through = record { 0 = number_at 4 12 p };
  nacks = record { at = 17; len = 4 * n };
  resend_delay = number_at 1 (17 + 4 * n) p;
  flags = flags;
  delay = found.delay;
  destination = found.destination;
  max_size = found.max_size;
  signature = found.signature;
  leftover = found.leftover;
  payload = record { at = end; len = length p - end };
}

abbrev pub with_options : List ℕ → Found → Saying Packet
with_options p found = values (fields_read p (nack_count p) (options_end p) (flags_of p) found)

-- the answer, by document 01's numbers in its order: 2, 1, then the options' own in wire order
unfoldable pub read_of : List ℕ → Saying Packet
read_of p =
    -- packet read longer than 65,535
    refusal 2 when ltb 65535 (length p) else
    -- packet shorter than 22, 22+4n or 22+4n+o
    refusal 1 when ltb (length p) 22 else
    refusal 1 when ltb (length p) (options_at p) else
    refusal 1 when ltb (length p) (options_end p) else
    (options_in p (options_at p) (options_end p) (flags_of p) and_then with_options p)

-- the fields where nothing is read: every number 0, every part empty
abbrev pub no_fields : Packet
no_fields = record {
  send_stream_id = record { 0 = 0 };
  recv_stream_id = record { 0 = 0 };
  seq_nro = record { 0 = 0 };
  ack_through = record { 0 = 0 };
  nacks = record { at = 0; len = 0 };
  resend_delay = 0;
  flags = 0;
  delay = 0;
  destination = record { at = 0; len = 0 };
  max_size = 0;
  signature = record { at = 0; len = 0 };
  leftover = 0;
  payload = record { at = 0; len = 0 };
}

abbrev pub fields_in : Saying Packet → Packet
fields_in (refusal number) = no_fields
fields_in (values fields) = fields

-- the fields that are read of p
abbrev pub fields_of : List ℕ → Packet
fields_of p = fields_in (read_of p)

-- The parts, as parts of the packet itself. Where the read is refused, a part is empty.
abbrev pub spanned : List ℕ → Span → List ℕ
spanned p s = take s.len (drop s.at p)

abbrev pub nacks_of : List ℕ → List ℕ
nacks_of p = spanned p (fields_of p).nacks

-- the NACKs as numbers: the bytes of that part, four each
abbrev pub nack_numbers_of : List ℕ → List ℕ
nack_numbers_of p = numbers_at 4 (length (nacks_of p) / 4) 0 (nacks_of p)

abbrev pub destination_of : List ℕ → List ℕ
destination_of p = spanned p (fields_of p).destination

abbrev pub signature_of : List ℕ → List ℕ
signature_of p = spanned p (fields_of p).signature

abbrev pub payload_of : List ℕ → List ℕ
payload_of p = spanned p (fields_of p).payload
