-- `sender_submit::submit_done` meets its contract: the NACKs stand at the table's front, and the packets have the receiver's ack fields. Assumes nothing.
use Prim.Native.Nat.{◌≤◌}
use mathlib.Core.Path.{◌≡◌, sym}
use lib.ListN.{length, take}
use lib.Seq.{length-take-le}
use Rattle.receiver_ack.specs.Fields.{ack_nacks_of}
use Rattle.sender_submit.proofs.Ways.{acking_of, nacks_at}
use Rattle.sender_submit.proofs.submit_done.Goals.{After-fields-acks}
use Rattle.sender_submit.proofs.submit_done.Goals as goal

-- the NACKs, which the table of the missing numbers has at its front
nacks : (g : After-fields-acks) → let acks = g.fields-acks in
    (take acks.result.nacks acks.new.missing ≡ ack_nacks_of g.args.r.now) × (acks.result.nacks ≤ length acks.new.missing)
nacks g = rw (g.fields-acks.ensures.value, g.fields-acks.ensures.missing_after) (nacks_at g.args.r.now _)

pub slice_bounds-missing-end : goal.slice_bounds-missing-end
slice_bounds-missing-end c = (nacks (goal.at.slice_bounds-missing-end c).After-fields-acks).1

pub slice_bounds-making-end : goal.slice_bounds-making-end
slice_bounds-making-end c = sym (length-take-le _ _ (nacks (goal.at.slice_bounds-making-end c).After-fields-acks).1)

pub invariant_of-making : goal.invariant_of-making
invariant_of-making c = let r = c.args.r.now in
    record { acking = rw ((nacks (goal.at.invariant_of-making c).After-fields-acks).0, c.fields-acks.ensures.value) (acking_of r.head.next.0 r.head.highest.0 r.marks) }
