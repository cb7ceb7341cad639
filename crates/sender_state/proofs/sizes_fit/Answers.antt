-- `sender_state::sizes_fit` meets its contract: the product is taken only where the counts fit. Assumes nothing.
use Prim.Native.Nat.{◌+◌}
use mathlib.Core.Path.{sym, ◌∙◌}
use native.Mathlib.Nat.{mul-le-mul_right}
use native.Mathlib.Omega.{arith}
use Rattle.sender_state.proofs.Facts.{counted}
use Rattle.sender_state.proofs.sizes_fit.Goals as goal

pub overflow_mul-result : goal.overflow_mul-result
overflow_mul-result c = let a = c.args in
    let k = counted a.chunk a.count (sym c.counts_fit.ensures ∙ c.if-counts_fit.true) in
    omega (arith, mul-le-mul_right (a.chunk + 1044) k.count_most)
