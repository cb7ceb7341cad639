-- `sender_resend::again::find_expired` meets its contract: the numbers in flight below end are old, and there are count of them. Assumes nothing.
use Rattle.sender_resend.proofs.Expiry.{Expiring}
use Rattle.sender_resend.proofs.again.find_expired.Given as goal

abbrev pub invariant-loop-count : goal.invariant-loop-count
invariant-loop-count l = Expiring l.s.numbers l.s.sent l.s.marks l.s.next.0 l.clock l.rto l.s.window l.count l.end
