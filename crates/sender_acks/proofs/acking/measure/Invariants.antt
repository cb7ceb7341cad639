-- `sender_acks::acking::measure` meets its contract: from heads the numbers whose samples are still to be taken. Assumes nothing.
use Rattle.std.proofs.Common.{◌-◌}
use Rattle.sender_acks.specs.Acks.{measured_by}
use Rattle.sender_acks.proofs.Tables.{Measuring}
use Rattle.sender_acks.proofs.acking.measure.Given as goal

abbrev pub invariant-loop-number : goal.invariant-loop-number
invariant-loop-number l = Measuring l.s.numbers l.flags (measured_by l.s.numbers l.s.sent l.s.resent l.clock) l.s.next.0 l.s.timing l.s.window l.m l.from

abbrev pub decreases-loop-number : goal.decreases-loop-number
decreases-loop-number l = l.s.next.0 - l.from
