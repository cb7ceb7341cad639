-- `receiver_why::why` meets its contract: a state that keeps the rules has its highest number near the next. Assumes nothing.
use mathlib.Core.Path.{sym, ◌∙◌}
use Rattle.receiver_state.proofs.Facts.{ruled}
use Rattle.receiver_why.proofs.why.Goals as goal

pub first_missing-gap-requires : goal.first_missing-gap-requires
first_missing-gap-requires c = let f = ruled c.args.r.now (sym c.rules_hold.ensures ∙ c.if-not-rules_hold.false) in (f.low, f.last)
