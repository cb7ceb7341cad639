-- Laws of the timer and the window: what a caller may use without opening a formula. Assumes nothing.
use mathlib.Core.Path.{◌≡◌}
use mathlib.Core.Bool.{true}
use Prim.Native.Nat.{ℕ, ◌+◌, ◌-◌, ◌*◌, ◌/◌, ◌^◌, ◌≤◌, ◌<◌}
use native.Mathlib.Omega.{arith}
use native.Mathlib.Decide.{dec_le, dec_lt}
use borrow.Author.Tests.{ltb-true, lt-ltb, le-ltb, le-leb, lt-leb}
use lib.Dec.{ltb}
use Rattle.terms.proofs.Laws.{case, and_left, and_right, and_both}
use Rattle.timer.specs.Timer.{smoothed_of, deviation_of, sampled_of, rto_of, timing_fits}
use Rattle.timer.specs.Window.{grown_of, fallen_of}
use Rattle.timer.specs.declared.Sampled.{Sampled}
use Rattle.std.specs.Prelude.{Option, Some, None}

-- an average of numbers below 2^32 is below 2^32, so 32 bits hold the smoothed time and the deviation
pub smoothed_fits : (rtt R : ℕ) → rtt < 2 ^ 32 → R < 2 ^ 32 → smoothed_of rtt R < 2 ^ 32
smoothed_fits rtt R a b = omega arith

pub deviation_fits : (rtt deviation R : ℕ) → rtt < 2 ^ 32 → deviation < 2 ^ 32 → R < 2 ^ 32 → deviation_of rtt deviation R < 2 ^ 32
deviation_fits rtt deviation R a b d = omega arith

pub sampled_fits : (t : Option Sampled) (R : ℕ) → timing_fits t ≡ true → R < 2 ^ 32 → timing_fits (sampled_of t R) ≡ true
unfolding timing_fits sampled_of
sampled_fits None R h b = and_both _ _ (lt-ltb _ _ b) (lt-ltb (R / 2) (2 ^ 32) (omega arith))
sampled_fits (Some t) R h b =
    let p : t.rtt < 2 ^ 32 = ltb-true _ _ (and_left (ltb t.rtt (2 ^ 32)) (ltb t.deviation (2 ^ 32)) h) in
    let q : t.deviation < 2 ^ 32 = ltb-true _ _ (and_right (ltb t.rtt (2 ^ 32)) (ltb t.deviation (2 ^ 32)) h) in
    and_both _ _ (lt-ltb _ _ (smoothed_fits t.rtt R p b)) (lt-ltb _ _ (deviation_fits t.rtt t.deviation R p q b))

-- the timeout lies within its bounds whatever was sampled
pub rto_least : (t : Option Sampled) → 1000 ≤ rto_of t
unfolding rto_of
rto_least None = omega arith
rto_least (Some t) = omega arith

pub rto_most : (t : Option Sampled) → rto_of t ≤ 60000
unfolding rto_of
rto_most None = omega arith
rto_most (Some t) = omega arith

-- what holds of each way in which a window grows, or falls, holds of the window after it
pub grown_by_lem : (P : ℕ → Type 0) (w : ℕ) → (w < 64 → P (2 * w)) → (64 ≤ w → w ≤ 127 → P (w + 1)) → (127 < w → P w) → P (grown_of w)
unfolding grown_of
grown_by_lem P w doubles grows stays =
    case
    (λ (h : w < 64). rw (lt-ltb w 64 h) (doubles h))
    (λ (h : w < 64 → ⊥).
    let k : 64 ≤ w = omega arith in
    case
    (λ (l : w ≤ 127). rw (le-ltb w 64 k, le-leb w 127 l) (grows k l))
    (λ (l : w ≤ 127 → ⊥). let m : 127 < w = omega arith in rw (le-ltb w 64 k, lt-leb w 127 m) (stays m))
    (dec_le w 127))
    (dec_lt w 64)

pub fallen_by : (P : ℕ → Type 0) (w : ℕ) → (1 < w → P (w - 1)) → (w ≤ 1 → P w) → P (fallen_of w)
unfolding fallen_of
fallen_by P w falls stays =
    case
    (λ (h : 1 < w). rw (lt-ltb 1 w h) (falls h))
    (λ (h : 1 < w → ⊥). let k : w ≤ 1 = omega arith in rw (le-ltb 1 w k) (stays k))
    (dec_lt 1 w)

-- a window from 1 to 128 stays one
pub grown_least : (w : ℕ) → 1 ≤ w → 1 ≤ grown_of w
grown_least w a = grown_by_lem (λ n. 1 ≤ n) w (λ h. omega arith) (λ h k. omega arith) (λ h. omega arith)

pub grown_most : (w : ℕ) → w ≤ 128 → grown_of w ≤ 128
grown_most w b = grown_by_lem (λ n. n ≤ 128) w (λ h. omega arith) (λ h k. omega arith) (λ h. omega arith)

pub fallen_least : (w : ℕ) → 1 ≤ w → 1 ≤ fallen_of w
fallen_least w a = fallen_by (λ n. 1 ≤ n) w (λ h. omega arith) (λ h. omega arith)

pub fallen_most : (w : ℕ) → w ≤ 128 → fallen_of w ≤ 128
fallen_most w b = fallen_by (λ n. n ≤ 128) w (λ h. omega arith) (λ h. omega arith)

-- an acknowledged packet never makes the window smaller, and a resend never larger
pub grown_rises : (w : ℕ) → w ≤ grown_of w
grown_rises w = grown_by_lem (λ n. w ≤ n) w (λ h. omega arith) (λ h k. omega arith) (λ h. omega arith)

pub fallen_falls : (w : ℕ) → fallen_of w ≤ w
fallen_falls w = fallen_by (λ n. n ≤ w) w (λ h. omega arith) (λ h. omega arith)
