-- Where the parts of a packet stand: inside the packet, in wire order, none over another.
use Rattle.std.specs.Prelude.{ℕ, ◌+◌, ◌≤◌, List, length}
use Rattle.packet_read.specs.declared.Packet.{Packet}
use Rattle.packet_read.specs.declared.Span.{Span}

abbrev pub span_end : Span → ℕ
span_end s = s.at + s.len

-- of the packet p, the parts that v names
pub record Laid (p : List ℕ) (v : Packet) : Type 0 where
  pub nacks_first : span_end v.nacks ≤ v.destination.at
  pub then_destination : span_end v.destination ≤ v.signature.at
  pub then_signature : span_end v.signature + v.leftover ≤ v.payload.at
  pub then_payload : span_end v.payload ≤ length p
