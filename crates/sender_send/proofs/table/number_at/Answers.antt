-- `sender_send::table::number_at` meets its contract: after k turns the numbers from `from` on are those from rank k on. Assumes nothing.
use mathlib.Core.Path.{sym, ◌∙◌}
use native.Mathlib.Omega.{arith}
use Rattle.sender_send.proofs.Ranks.{walk_more, walk_none, walk_end}
use Rattle.sender_send.proofs.table.number_at.Goals as goal

pub returns-in_err-from : goal.returns-in_err-from
returns-in_err-from c = c.from_residual.ensures ∙ walk_none _ _ _ _ c.requires _ _ c.loop-k.invariant _ (omega arith) (sym c.in_err-from.ensures)

pub overflow_add-from : goal.overflow_add-from
overflow_add-from c = let w = walk_more _ _ _ _ c.requires _ _ c.loop-k.invariant _ (sym c.in_ok-from.ensures) in omega arith

pub loop-k-preserved : goal.loop-k-preserved
loop-k-preserved c = walk_more _ _ _ _ c.requires _ _ c.loop-k.invariant _ (sym c.in_ok-from.ensures)

pub returns : goal.returns
returns c = c.least-2.ensures ∙ walk_end _ _ _ _ c.requires _ _ c.loop-k.invariant _ (omega arith)
