-- `sender_resend::again::resend_done` meets its contract: each way out is one of document 01's. Assumes nothing.
use Prim.Native.Nat.{ℕ, ◌+◌, ◌<◌}
use mathlib.Core.Path.{refl, ap}
use native.Mathlib.Omega.{arith}
use borrow.Author.Rules.{rules}
use borrow.Author.Tests.{eqb-false, not-false}
use lib.Dec.{eqb}
use lib.ListN.{length}
use Rattle.std.specs.Prelude.{Some}
use Rattle.terms.proofs.Laws.{or_false_left, or_false_right}
use Rattle.timer.proofs.Laws.{rto_most}
use Rattle.timer.specs.Timer.{rto_of}
use Rattle.sender_state.specs.Numbers.{in_flight}
use Rattle.sender_state.specs.Steps.{Tidy}
use Rattle.sender_state.proofs.Facts.{ruled}
use Rattle.sender_state.proofs.Search.{tidy}
use Rattle.sender_resend.specs.Resend.{timed_at, expired_of}
use Rattle.sender_resend.specs.Steps.{Expires, flying_below}
use Rattle.sender_resend.proofs.Resending.{none_flies, some_flies, left_idle, left_later, left_again, again_same}
use Rattle.sender_resend.proofs.again.resend_done.Goals.{Start, After-find_expired-found}
use Rattle.sender_resend.proofs.again.resend_done.Goals as goal

neat : (c : Start) → Tidy c.args.s.numbers c.args.s.marks 2 c.args.s.next.0
neat c = tidy c.args.s (search rules) (search rules) (omega arith) (ruled c.args.s c.requires.0) 2 (omega arith)

-- something is in flight, and these of it have expired
some : (c : After-find_expired-found) → Tidy c.args.s.numbers c.args.s.marks 2 c.args.s.next.0 → 0 < length (in_flight c.args.s)
some c neat = some_flies c.args.s neat (rw c.least.ensures at c.if-is_none.ensures)

found : (c : After-find_expired-found) → let a = c.args in
    Expires a.s.numbers a.s.sent a.s.marks a.s.next.0 a.clock (rto_of a.s.timing) a.s.window c.find_expired-found.result
found c = rw c.rto-rto.ensures at c.find_expired-found.ensures

pub returns-then-is_none : goal.returns-then-is_none
returns-then-is_none c = left_idle c.args.s c.args.clock c.args.path (none_flies c.args.s (neat (goal.at.returns-then-is_none c).Start) (rw c.least.ensures at c.if-is_none.ensures)) _ refl

pub find_expired-found-requires-clause-tidy : goal.find_expired-found-requires-clause-tidy
find_expired-found-requires-clause-tidy c = neat (goal.at.find_expired-found-requires-clause-tidy c).Start

pub find_expired-found-requires-clause-past : goal.find_expired-found-requires-clause-past
find_expired-found-requires-clause-past c = λ i h. omega (arith, (ruled c.args.s c.requires.0).past i (omega (arith, (neat (goal.at.find_expired-found-requires-clause-past c).Start).table)), c.requires.1)

pub overflow_add-result : goal.overflow_add-result
overflow_add-result c = omega (arith, c.rto-rto.ensures, rto_most c.args.s.timing, c.requires.2)

pub returns-then-found-path : goal.returns-then-found-path
returns-then-found-path c = let a = c.args in
    let g = (goal.at.returns-then-found-path c).After-find_expired-found in
    left_later a.s a.clock (some g (neat (goal.at.returns-then-found-path c).Start)) c.find_expired-found.result.count (found g).counts a.path c.if-found-path.true _
    (ap (λ (r : ℕ). timed_at a.s (Some (a.clock + r)) a.clock) c.rto-rto.ensures)

pub returns : goal.returns
returns c = let a = c.args in
    let g = (goal.at.returns c).After-find_expired-found in
    let t = neat (goal.at.returns c).Start in
    let count = c.find_expired-found.result.count in
    let again = eqb-false count 0 (or_false_left _ _ c.if-found-path.false) in
    rw (not-false a.path (or_false_right (eqb count 0) _ c.if-found-path.false))
    (left_again a.s a.clock (some g t) (omega (arith, (found g).counts, again)) count (found g).counts
    (flying_below a.s.numbers a.s.marks c.find_expired-found.result.end)
    (again_same a.s.numbers a.s.marks a.s.next.0 c.find_expired-found.result.end t (expired_of a.s a.clock) (found g).below)
    _ c.stamped.ensures)
