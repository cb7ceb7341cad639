-- `sender_check::valid` meets its contract: each early return breaks a rule, and at the end the places' own rules are left. Assumes nothing.
use Prim.Native.Nat.{◌≤◌, min}
use mathlib.Core.Path.{◌≡◌, sym, ◌∙◌}
use mathlib.Core.Bool.{true≢false}
use native.Mathlib.Omega.{arith}
use lib.ListN.{length}
use Rattle.terms.proofs.Laws.{refuted}
use Rattle.sender_state.specs.Steps.{least_of}
use Rattle.sender_state.proofs.Facts.{ruled}
use Rattle.sender_check.proofs.Check.{alone_of, bound_is, tests_left}
use Rattle.sender_check.proofs.valid.Goals as goal

pub returns-then-s-lt1 : goal.returns-then-s-lt1
returns-then-s-lt1 c = refuted _ (λ t. let r = ruled _ t in omega (arith, r.next_some))

pub returns-then-s-lt1-2 : goal.returns-then-s-lt1-2
returns-then-s-lt1-2 c = refuted _ (λ t. let r = ruled _ t in omega (arith, r.window_some))

pub returns-then-s-gt128 : goal.returns-then-s-gt128
returns-then-s-gt128 c = refuted _ (λ t. let r = ruled _ t in omega (arith, r.window_most))

pub returns-then-s-gt1000000000000000 : goal.returns-then-s-gt1000000000000000
returns-then-s-gt1000000000000000 c = refuted _ (λ t. let r = ruled _ t in omega (arith, r.clock_most))

pub returns-then-not-timer_fits : goal.returns-then-not-timer_fits
returns-then-not-timer_fits c = refuted _ (λ t. let r = ruled _ t in true≢false (sym r.due ∙ sym c.timer_fits.ensures ∙ c.if-not-timer_fits.true))

pub returns-then-not-timing_fits : goal.returns-then-not-timing_fits
returns-then-not-timing_fits c = refuted _ (λ t. let r = ruled _ t in true≢false (sym r.timing ∙ sym c.timing_fits.ensures ∙ c.if-not-timing_fits.true))

pub returns-then-count_of-gt128 : goal.returns-then-count_of-gt128
returns-then-count_of-gt128 c = refuted _ (λ t. let r = ruled _ t in omega (arith, r.few, c.count_of.ensures, c.if-count_of-gt128.true))

pub returns-then-not-all_alone : goal.returns-then-not-all_alone
returns-then-not-all_alone c = refuted _ (λ t. true≢false (sym (alone_of _ (omega arith) (omega arith) (ruled _ t)) ∙ sym c.all_alone.ensures ∙ c.if-not-all_alone.true))

pub returns : goal.returns
returns c = let s = c.args.s.now in
    let table : length s.marks ≡ 192 = omega arith in
    let row : length s.numbers ≡ 192 = omega arith in
    let width : s.next.0 ≤ 4294967295 = omega arith in
    let due = sym c.timer_fits.ensures ∙ c.if-not-timer_fits.false in
    let timing = sym c.timing_fits.ensures ∙ c.if-not-timing_fits.false in
    let alone = sym c.all_alone.ensures ∙ c.if-not-all_alone.false in
    let bound : c.min.result ≡ min (least_of s.numbers s.marks 1 0 192) s.next.0 =
    c.min.ensures ∙ rw (c.unwrap_or-lowest.ensures, c.least.ensures) (bound_is s table row width) in
    c.places_hold.ensures ∙ rw bound (tests_left s table row alone (omega (arith, c.count_of.ensures)) c.if-s-lt1.false due c.if-s-lt1-2.false c.if-s-gt128.false timing c.if-s-gt1000000000000000.false width)
