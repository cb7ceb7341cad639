-- `receiver_why::first_missing` meets its contract: the first missing of the numbers that are left is the first missing of all. Assumes nothing.
use Prim.Native.Nat.{◌+◌}
use mathlib.Core.Path.{◌≡◌, ◌∙◌}
use native.Mathlib.Omega.{arith}
use Rattle.receiver_why.proofs.Smallest.{stop_here, go_on, past_end}
use Rattle.receiver_why.proofs.first_missing.Goals as goal

pub returns-then-r-number-eq0 : goal.returns-then-r-number-eq0
returns-then-r-number-eq0 c = stop_here c.args.r.now.marks c.loop-number.number c.args.r.now.head.highest.0 (omega arith) c.if-r-number-eq0.true ∙ c.loop-number.invariant

pub loop-number-preserved : goal.loop-number-preserved
loop-number-preserved c = go_on c.args.r.now.marks c.loop-number.number c.args.r.now.head.highest.0 (omega arith) c.if-r-number-eq0.false ∙ c.loop-number.invariant

pub returns : goal.returns
returns c = let e : c.args.r.now.head.highest.0 + 1 ≡ c.loop-number.number = omega arith in
    e ∙ past_end c.args.r.now.marks c.loop-number.number c.args.r.now.head.highest.0 (omega arith) ∙ c.loop-number.invariant
