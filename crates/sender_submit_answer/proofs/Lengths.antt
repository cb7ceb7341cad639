-- Lengths that are not wrong, and how many chunks they make. Assumes nothing.
use Prim.Native.Nat.{ℕ, ◌+◌, ◌-◌, ◌/◌, ◌%◌, ◌≤◌, ◌<◌, min}
use mathlib.Core.Path.{◌≡◌, sym}
use mathlib.Core.Bool.{false, ◌||◌}
use native.Mathlib.Nat.{div-eq-sub-div, div-eq_of_lt-le, mul-le-mul_left}
use native.Mathlib.Omega.{arith}
use borrow.Author.Tests.{ltb-false, eqb-false}
use lib.Dec.{ltb, eqb}
use Rattle.std.proofs.lemmas.Grind.{div_ceil_times}
use Rattle.std.proofs.lemmas.Nat.{div_below}
use Rattle.terms.proofs.Laws.{or_false_left, or_false_right}
use Rattle.sender_submit_answer.specs.Answer.{chunks_of}

-- the quotient rounded up, as std has it
pub ceiling : (size chunk : ℕ) → 1 ≤ chunk → size / chunk + min 1 (size % chunk) ≡ chunks_of chunk size
ceiling size chunk h = let b = div_ceil_times size chunk h in
    let n = size / chunk + min 1 (size % chunk) in
    sym (div-eq_of_lt-le chunk (omega (arith, b.0)) (grind (arith, b.1)))

pub chunks_some : (chunk size : ℕ) → 1 ≤ chunk → 1 ≤ size → 1 ≤ chunks_of chunk size
chunks_some chunk size a b =
    let h : 0 < chunk = omega arith in
    let k : chunk ≤ size + (chunk - 1) = omega arith in
    omega (arith, div-eq-sub-div h k)

pub chunks_most : (chunk size : ℕ) → 1 ≤ chunk → 1 ≤ size → chunks_of chunk size ≤ size
chunks_most chunk size a b =
    let h : (size + (chunk - 1)) / chunk < size + 1 = div_below (size + (chunk - 1)) chunk (size + 1) a (grind (arith, mul-le-mul_left)) in
    omega arith

-- a length that is not wrong
pub length_fair : (size : ℕ) → (eqb size 0 || ltb 65535 size) ≡ false → (1 ≤ size) × (size ≤ 65535)
length_fair size e =
    let n = eqb-false size 0 (or_false_left (eqb size 0) (ltb 65535 size) e) in
    (omega (arith, n), ltb-false 65535 size (or_false_right (eqb size 0) (ltb 65535 size) e))
