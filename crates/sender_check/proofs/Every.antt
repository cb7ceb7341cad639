-- A test at each index below a number, as a loop finds it. Assumes nothing.
use Prim.Native.Nat.{ℕ, zero, suc, ◌+◌, ◌<◌}
use mathlib.Core.Path.{◌≡◌, refl}
use mathlib.Core.Bool.{Bool, true, ◌&&◌}
use native.Mathlib.Nat.{not-suc-le-zero}
use native.Mathlib.Numerals.{add-one}
use native.Mathlib.Decide.{ℕ_discrete}
use native.Mathlib.Omega.{arith}
use Rattle.terms.proofs.Laws.{case, and_left, and_right, and_both}
use Rattle.sender_check.specs.Steps.{every}

-- each index below n
pub every_none : (p : ℕ → Bool) → true ≡ every 0 p
unfolding every
every_none p = refl

pub every_more : (p : ℕ → Bool) (ok : Bool) (i : ℕ) → ok ≡ every i p → (ok && p i) ≡ every (i + 1) p
unfolding every
every_more p ok i e = rw (add-one, e)

pub every_at : (p : ℕ → Bool) (n : ℕ) → every n p ≡ true → (k : ℕ) → k < n → p k ≡ true
unfolding every
every_at p zero t k h = absurd (not-suc-le-zero h)
every_at p (suc n) t k h =
    case
    (λ (e : k ≡ n). rw e (and_right (every n p) (p n) t))
    (λ (o : k ≡ n → ⊥). every_at p n (and_left (every n p) (p n) t) k (omega (arith, o)))
    (ℕ_discrete k n)

pub every_of : (p : ℕ → Bool) (n : ℕ) → ((k : ℕ) → k < n → p k ≡ true) → every n p ≡ true
unfolding every
every_of p zero f = refl
every_of p (suc n) f = and_both (every n p) (p n) (every_of p n (λ k h. f k (omega arith))) (f n (omega arith))

-- one more turn, where a call gave the test's value
pub every_turn : (p : ℕ → Bool) (ok one : Bool) (i : ℕ) → ok ≡ every i p → one ≡ p i → (ok && one) ≡ every (i + 1) p
every_turn p ok one i e f = rw f (every_more p ok i e)
