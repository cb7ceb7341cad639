-- `packet_write::put::head` meets its contract: each part goes behind the last. Assumes nothing.
use Rattle.std.proofs.Common.{ℕ, ◌+◌, ◌*◌, List, ◌++◌, length, refl, ◌∙◌, ap, arith}
use Rattle.terms.specs.Lists.{◌at_front_of◌}
use Rattle.wire.specs.BigEndian.{bytes_of, bytes_of_each}
use Rattle.wire.proofs.Laws.{length_each}
use Rattle.wire.proofs.Parts.{front_first, front_more, front_at}
use Rattle.packet_write.proofs.Joins.{first_numbers, head_joined}
use Rattle.packet_write.proofs.put.head.Goals as goal

pub returns : goal.returns
returns c =
    let f = c.args.f in
    let nacks = c.args.nacks.now in
    let l = length_each 4 nacks in
    let f0 = front_first (bytes_of_each 4 (first_numbers f)) c.args.rest.now _ 16 c.put_numbers.ensures refl (omega (arith, c.requires)) in
    let f1 = front_at (17 + 4 * length nacks) (omega (arith, l)) (front_more f0 (bytes_of 1 (length nacks) ++ bytes_of_each 4 nacks) (omega (arith, l, c.requires)) c.counted.ensures) in
    let f2 = front_more f1 (bytes_of 1 f.resend_delay ++ bytes_of 2 f.flags ++ bytes_of 2 c.args.options) (omega (arith, c.requires)) c.flagged.ensures in
    f2.begins ∙ ap (λ (w : List ℕ). w at_front_of c.args.rest.now) (head_joined f nacks c.args.options)
