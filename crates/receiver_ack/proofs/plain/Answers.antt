-- `receiver_ack::plain` meets its contract: the NACKs stand at the table's front, and the writer has room for the packet or refuses it for that alone.
use Rattle.std.proofs.Common.{rules, Err, ◌≡◌, ◌≤◌, length, take, sym, ◌∙◌, ap}
use lib.Seq.{length-take-le}
use Rattle.terms.specs.Answers.{said_of}
use Rattle.terms.specs.Refusals.{number_of}
use Rattle.receiver_ack.specs.Fields.{ack_nacks_of}
use Rattle.receiver_ack.proofs.Ways.{nacks_front, plain_refused, plain_written}
use Rattle.receiver_ack.proofs.plain.Goals.{After-fields-acks}
use Rattle.receiver_ack.proofs.plain.Goals as goal

-- the NACKs, which the table has at its front
nacks : (g : After-fields-acks) → let acks = g.fields-acks in
    (take acks.result.nacks acks.new.missing ≡ ack_nacks_of g.args.r.now) × (acks.result.nacks ≤ length acks.new.missing)
nacks g =
    let r = g.args.r.now in
    nacks_front r.head.next.0 r.head.highest.0 r.marks _ g.fields-acks.result g.fields-acks.new.missing g.fields-acks.ensures.value g.fields-acks.ensures.missing_after

pub slice_bounds-missing-end : goal.slice_bounds-missing-end
slice_bounds-missing-end c = (nacks (goal.at.slice_bounds-missing-end c).After-fields-acks).1

pub slice_bounds-write-end : goal.slice_bounds-write-end
slice_bounds-write-end c = sym (length-take-le _ _ (nacks (goal.at.slice_bounds-write-end c).After-fields-acks).1)

pub returns-in_err-written-clause-result_value : goal.returns-in_err-written-clause-result_value
returns-in_err-written-clause-result_value c =
    let r = c.args.r.now in
    let acks = c.fields-acks in
    let why = c.in_err-written.field-0.0 in
    let gave : c.from_residual.result ≡ Err why = search rules in
    let w = plain_refused r.head.next.0 r.head.highest.0 r.marks c.args.send c.args.recv acks.result (take acks.result.nacks acks.new.missing)
    c.args.output.now c.write.new.output acks.ensures.value (nacks (goal.at.returns-in_err-written-clause-result_value c).After-fields-acks).0 c.write.ensures.output_after (number_of why) c.in_err-written.ensures.result_value in
    ap said_of gave ∙ w.0

pub returns : goal.returns
returns c =
    let r = c.args.r.now in
    let acks = c.fields-acks in
    let w = plain_written r.head.next.0 r.head.highest.0 r.marks c.args.send c.args.recv acks.result (take acks.result.nacks acks.new.missing)
    c.args.output.now c.write.new.output acks.ensures.value (nacks (goal.at.returns c).After-fields-acks).0 c.write.ensures.output_after c.in_ok-written.written c.in_ok-written.ensures.result_value in
    record { result_value = w.0; output_after = w.1 }
