-- A packet as it is read, in numbers alone: the refusal's number, or 0 and the fields; where the read is refused, every other number is 0
-- and every part empty.
use Rattle.std.specs.Prelude.{ℕ}
use Rattle.terms.specs.Answers.{Saying, refusal, values}
use Rattle.packet_read.specs.Reading.{no_fields}
use Rattle.packet_read.specs.declared.Packet.{Packet}
use Rattle.packet_read.specs.declared.Span.{Span}
use Rattle.host_numbers.specs.declared.Part.{Part}
use Rattle.host_numbers.specs.declared.Fields.{Fields}

abbrev pub part_of : Span → Part
part_of s = record { at = s.at; len = s.len }

abbrev pub hosted_packet : ℕ → Packet → Fields
hosted_packet number p = record {
  refusal = number;
  send_stream_id = p.send_stream_id;
  recv_stream_id = p.recv_stream_id;
  seq_nro = p.seq_nro;
  ack_through = p.ack_through;
  flags = p.flags;
  delay = p.delay;
  max_size = p.max_size;
  resend_delay = p.resend_delay;
  leftover = p.leftover;
  nacks = part_of p.nacks;
  destination = part_of p.destination;
  signature = part_of p.signature;
  payload = part_of p.payload;
}

abbrev pub hosted_read : Saying Packet → Fields
hosted_read (refusal number) = hosted_packet number no_fields
hosted_read (values p) = hosted_packet 0 p
