-- `sender_send::table::number_at` meets its contract: after k turns the numbers from `from` on are those from rank k on. Assumes nothing.
use Rattle.sender_send.proofs.Ranks.{Walking}
use Rattle.sender_send.proofs.table.number_at.Given as goal

abbrev pub invariant-loop-k : goal.invariant-loop-k
invariant-loop-k l = Walking l.s.numbers l.s.marks l.wanted l.s.next.0 l.k l.from
