-- `receiver_ack::list_missing`: of the numbers below number, those that are missing stand at the table's front.
use Rattle.receiver_ack.specs.Missing.{not_held}
use Rattle.receiver_ack.proofs.Listed.{Listed}
use Rattle.receiver_ack.proofs.list_missing.Given as goal

abbrev pub invariant-loop-number : goal.invariant-loop-number
invariant-loop-number l = Listed (not_held l.r.marks) l.r.head.next.0 l.r.head.highest.0 l.initial.missing l.missing l.count l.number
