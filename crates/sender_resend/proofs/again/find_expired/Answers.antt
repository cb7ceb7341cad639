-- `sender_resend::again::find_expired` meets its contract: the numbers in flight below end are old, and there are count of them. Assumes nothing.
use Prim.Native.Nat.{◌<◌}
use mathlib.Core.Path.{sym, ◌∙◌}
use native.Mathlib.Omega.{arith}
use Rattle.sender_resend.proofs.Expiry.{expire_start, expire_none, expire_place, expire_young, expire_more, expire_full}
use Rattle.sender_resend.proofs.again.find_expired.Goals.{After-place_of-at}
use Rattle.sender_resend.proofs.again.find_expired.Goals as goal

-- the number found lies below next, and its place within the table
placed : (c : After-place_of-at) → (c.place_of-at.result < 192) × (c.in-Some.number < c.args.s.now.next.0)
placed c =
    let p = expire_place _ _ _ _ _ _ _ _ _ c.loop-count.invariant c.requires.tidy c.in-Some.number (sym c.least.ensures ∙ c.in-Some.is) in
    (rw c.place_of-at.ensures p.0, p.1)

pub loop-count-init : goal.loop-count-init
loop-count-init c = expire_start _ _ _ _ _ _ _

pub returns-in_default : goal.returns-in_default
returns-in_default c = expire_none _ _ _ _ _ _ _ _ _ c.loop-count.invariant c.requires.tidy (omega arith) (sym c.least.ensures ∙ c.in_default.is)

pub offset_bounds-s-at : goal.offset_bounds-s-at
offset_bounds-s-at c = omega (arith, placed (goal.at.offset_bounds-s-at c).After-place_of-at)

pub bounds-s-at : goal.bounds-s-at
bounds-s-at c = (placed (goal.at.bounds-s-at c).After-place_of-at).0

pub returns-then-clock-s : goal.returns-then-clock-s
returns-then-clock-s c = expire_young _ _ _ _ _ _ _ _ _ c.loop-count.invariant c.requires.tidy c.in-Some.number (sym c.least.ensures ∙ c.in-Some.is) (omega arith)
    (rw c.place_of-at.ensures at c.if-clock-s.true)

pub overflow_add-end : goal.overflow_add-end
overflow_add-end c = omega (arith, placed (goal.at.overflow_add-end c).After-place_of-at)

pub loop-count-preserved : goal.loop-count-preserved
loop-count-preserved c = expire_more _ _ _ _ _ _ _ _ _ c.loop-count.invariant c.requires.tidy c.in-Some.number (sym c.least.ensures ∙ c.in-Some.is)
    (rw c.place_of-at.ensures at c.if-clock-s.false)

pub returns : goal.returns
returns c = expire_full _ _ _ _ _ _ _ _ _ c.loop-count.invariant (omega arith)
