-- `packet_write::put::packet` meets its contract: the head, the options behind it, and the payload behind them. Assumes nothing.
use Rattle.std.proofs.Common.{ℕ, ◌≡◌, ◌+◌, ◌*◌, List, ◌++◌, length, ◌∙◌, ap, append_assoc, arith}
use Rattle.terms.specs.Lists.{◌at_front_of◌, joined}
use Rattle.wire.proofs.Parts.{front_first, front_more, front_at}
use Rattle.packet_write.specs.Writing.{head_parts, option_parts, packet_bytes}
use Rattle.packet_write.proofs.Joins.{length_head, length_options}
use Rattle.packet_write.proofs.put.packet.Goals as goal

pub returns : goal.returns
unfolding packet_bytes
returns c =
    let a = c.args in
    let options = joined (option_parts a.f a.parts.destination.now a.parts.signature.now) in
    let size = c.numbers_size.result + length a.parts.destination.now + length a.parts.signature.now in
    let long = length_options a.f a.parts.destination.now a.parts.signature.now in
    let is : size ≡ length options = omega (arith, long, c.numbers_size.ensures.0) in
    let f0 = front_first (joined (head_parts a.f a.parts.nacks.now size)) a.output.now _ (22 + 4 * length a.parts.nacks.now) c.head.ensures (length_head a.f a.parts.nacks.now size) (omega (arith, c.requires)) in
    let f1 = front_at (22 + 4 * length a.parts.nacks.now + size) (omega (arith, is)) (front_more f0 options (omega (arith, long, c.requires)) c.options.ensures) in
    let f2 = front_more f1 a.parts.payload.now (omega (arith, is, long, c.requires)) c.put_bytes.ensures in
    f2.begins
    ∙ ap (λ (w : List ℕ). w at_front_of a.output.now)
    (append_assoc (joined (head_parts a.f a.parts.nacks.now size)) options a.parts.payload.now ∙ ap (λ (k : ℕ). joined (head_parts a.f a.parts.nacks.now k) ++ (options ++ a.parts.payload.now)) is)
