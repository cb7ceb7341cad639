-- `receiver_ack::list_missing` meets its contract: of the numbers below number, those that are missing stand at the table's front.
use Rattle.std.proofs.Common.{arith}
use borrow.Author.Tests.{eq-eqb, ne_eqb}
use Rattle.receiver_ack.specs.Missing.{not_held}
use Rattle.receiver_ack.proofs.Listed.{list_found, list_passed}
use Rattle.receiver_ack.proofs.list_missing.Goals.{then-r-number-eq0, else-r-number-eq0}
use Rattle.receiver_ack.proofs.list_missing.Goals as goal

pub loop-number-preserved : goal.loop-number-preserved
loop-number-preserved c =
    let r = c.args.r.now in
    let l = c.loop-number in
    elim c.if-r-number-eq0.branch [
      | then-r-number-eq0 w ↦
          rw (w.missing-is, w.count-is) (list_found (not_held r.marks) r.head.next.0 r.head.highest.0 c.args.missing.now l.missing l.count l.number l.invariant (omega arith) (omega arith) (eq-eqb _ _ w.if-r-number-eq0.true) (omega arith))
      | else-r-number-eq0 w ↦
          rw (w.missing-is, w.count-is) (list_passed (not_held r.marks) r.head.next.0 r.head.highest.0 c.args.missing.now l.missing l.count l.number l.invariant (omega arith) (omega arith) (ne_eqb _ _ w.if-r-number-eq0.false))
    ]
