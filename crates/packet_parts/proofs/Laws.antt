-- Where the parts of a packet stand: inside the packet, in wire order, none over another. Assumes nothing.
use Rattle.std.proofs.Common.{ℕ, ◌≡◌, ◌≤◌, List, length, refl, arith}
use Rattle.std.proofs.lemmas.Grind.{common_steps}
use Rattle.terms.specs.Answers.{Saying, refusal, values}
use Rattle.packet_read.specs.Flags.{bit}
use Rattle.packet_read.specs.Options.{destination_begins}
use Rattle.packet_read.specs.Reading.{fields_in, fields_of, flags_of, options_at, options_end, read_of, spanned}
use Rattle.packet_read.specs.declared.Packet.{Packet}
use Rattle.packet_read.specs.declared.Span.{Span}
use Rattle.packet_read.proofs.Form.{size_inside}
use Rattle.packet_read.proofs.Readable.{readable}
use Rattle.packet_parts.specs.Laid.{span_end, Laid}

-- the length of a part is the span's
pub spanned_length : (p : List ℕ) (s : Span) → span_end s ≤ length p → length (spanned p s) ≡ s.len
spanned_length p s h = grind (arith, common_steps)

said_laid : (p : List ℕ) (s : Saying Packet) → read_of p ≡ s → Laid p (fields_in s)
said_laid p (refusal n) h = grind (arith, common_steps)
said_laid p (values v) h =
    let r = readable p v h in
    let i = size_inside p (destination_begins (options_at p) (flags_of p)) (options_end p) r.d (bit 5 (flags_of p)) r.held.delay_fits r.held.there in
    grind (arith, common_steps)

-- the law: whatever the bytes, the parts that `read` reports lie so
pub parts_laid : (p : List ℕ) → Laid p (fields_of p)
parts_laid p = said_laid p (read_of p) refl
