-- `sender_acks::acking::measure` meets its contract: from heads the numbers whose samples are still to be taken. Assumes nothing.
use mathlib.Core.Path.{sym, ◌∙◌}
use Rattle.sender_acks.proofs.Tables.{measure_more}
use Rattle.sender_acks.proofs.acking.measure.Goals as goal

pub loop-number-preserved : goal.loop-number-preserved
loop-number-preserved c = measure_more _ _ _ _ _ _ c.requires _ _ c.loop-number.invariant c.in-Some.number (sym c.least.ensures ∙ c.in-Some.is) _
    (c.measure_one-m.ensures ∙ rw (c.sample.ensures, c.place_of-at.ensures))
