-- `packet_write::put::options` meets its contract: each option goes behind the last, and an absent one is no byte. Assumes nothing.
use Rattle.std.proofs.Common.{ℕ, ◌+◌, ◌≤◌, List, length, sym, ◌∙◌, ap, arith}
use Rattle.terms.specs.Lists.{◌at_front_of◌}
use Rattle.wire.proofs.Parts.{front_first, front_more, front_at}
use Rattle.packet_write.specs.Writing.{if_there}
use Rattle.packet_write.proofs.Joins.{length_if, length_options, options_joined}
use Rattle.packet_write.proofs.put.options.Goals as goal

pub returns : goal.returns
returns c =
    let a = c.args in
    let d = c.has-delayed.result in
    let s = c.has-sized.result in
    let ld = length_if d a.f.delay in
    let ls = length_if s a.f.max_size in
    let room : c.size_if-destination_at.result + length a.parts.destination.now + c.size_if.result + length a.parts.signature.now ≤ length a.rest.now =
    rw (length_options a.f a.parts.destination.now a.parts.signature.now, ← c.has-delayed.ensures, ← c.has-sized.ensures, ← c.size_if.ensures.0, ← c.size_if-destination_at.ensures.0) at c.requires in
    let f0 = front_first (if_there d a.f.delay) a.rest.now _ c.size_if-destination_at.result c.put16_if.ensures (ld ∙ sym c.size_if-destination_at.ensures.0) (omega arith) in
    let f1 = front_more f0 a.parts.destination.now (omega arith) c.put_bytes.ensures in
    let f2 = front_at _ (ap (λ (k : ℕ). c.size_if-destination_at.result + length a.parts.destination.now + k) (ls ∙ sym c.size_if.ensures.0))
    (front_more f1 (if_there s a.f.max_size) (omega (arith, ls)) c.put16_if-2.ensures) in
    let f3 = front_more f2 a.parts.signature.now (omega arith) c.put_bytes-2.ensures in
    f3.begins ∙ ap (λ (w : List ℕ). w at_front_of a.rest.now) (rw (c.has-delayed.ensures, c.has-sized.ensures) (options_joined a.f a.parts.destination.now a.parts.signature.now))
