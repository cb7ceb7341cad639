-- `sender_state::replace` meets its contract: after i turns the first i places are done. Assumes nothing.
use native.Mathlib.Omega.{arith}
use borrow.Author.Tests.{eq-eqb, ne_eqb}
use Rattle.sender_state.proofs.Replaced.{replace_start, replace_more, replace_end}
use Rattle.sender_state.proofs.replace.Goals.{then-flags-i-eq1, else-flags-i-eq1}
use Rattle.sender_state.proofs.replace.Goals as goal

pub loop-i-init : goal.loop-i-init
loop-i-init g c = replace_start _ _ _

pub loop-i-preserved : goal.loop-i-preserved
loop-i-preserved g c =
    elim c.if-flags-i-eq1.branch [
      | then-flags-i-eq1 w ↦ replace_more _ _ _ _ _ c.args.value _ (omega arith) c.loop-i.invariant (simp (eq-eqb _ _ w.if-flags-i-eq1.true) w.list-is)
      | else-flags-i-eq1 w ↦ replace_more _ _ _ _ _ w.index-list-i.result _ (omega arith) c.loop-i.invariant (simp (ne_eqb _ _ w.if-flags-i-eq1.false) w.list-is)
    ]

pub returns : goal.returns
returns g c = replace_end _ _ _ _ _ (omega arith) c.loop-i.invariant
