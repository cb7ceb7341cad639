-- Sums over numbers in a row. Assumes nothing.
use Prim.Native.Nat.{ℕ, zero, suc, ◌+◌, ◌≤◌, ◌<◌}
use mathlib.Core.Path.{◌≡◌, refl}
use mathlib.Core.List.{List}
use native.Mathlib.Omega.{arith}
use lib.ListN.{length, length-append}
use Rattle.terms.specs.Lists.{joined}
use Rattle.sender_meaning.specs.Steps.{chunk_at, chunks_from}
use Rattle.stream_counted.specs.Counted.{total}

pub total_same : (f g : ℕ → ℕ) (from left : ℕ) → ((n : ℕ) → from ≤ n → n < from + left → f n ≡ g n) → total f from left ≡ total g from left
total_same f g from zero e = refl
total_same f g from (suc left) e =
    let rest = total_same f g (suc from) left (λ n a b. e n (omega arith) (omega arith)) in
    omega (arith, e from (omega arith) (omega arith), rest)

pub total_both : (f g : ℕ → ℕ) (from left : ℕ) → total (λ n. f n + g n) from left ≡ total f from left + total g from left
total_both f g from zero = refl
total_both f g from (suc left) = omega (arith, total_both f g (suc from) left)

pub total_none : (f : ℕ → ℕ) (from left : ℕ) → ((n : ℕ) → from ≤ n → n < from + left → f n ≡ 0) → total f from left ≡ 0
total_none f from zero e = refl
total_none f from (suc left) e =
    let rest = total_none f (suc from) left (λ n a b. e n (omega arith) (omega arith)) in
    omega (arith, e from (omega arith) (omega arith), rest)

-- a row in two
pub total_split : (f : ℕ → ℕ) (from a b c : ℕ) → c ≡ a + b → total f from c ≡ total f from a + total f (from + a) b
total_split f from zero b c e =
    let same : c ≡ b = omega arith in
    let at : from + 0 ≡ from = omega arith in
    rw (same, at) (omega arith)
total_split f from (suc a) b c e =
    let more : c ≡ suc (a + b) = omega arith in
    let at : from + suc a ≡ suc from + a = omega arith in
    rw (more, at) (omega (arith, total_split f (suc from) a b (a + b) refl))

-- numbers in a row that count for the lengths of chunks in a row
pub total_chunks : (f : ℕ → ℕ) (chunk from k left : ℕ) (bytes : List ℕ) → ((i : ℕ) → i < left → f (from + i) ≡ length (chunk_at chunk (k + i) bytes))
    → total f from left ≡ length (joined (chunks_from chunk k left bytes))
total_chunks f chunk from k zero bytes e = refl
total_chunks f chunk from k (suc left) bytes e =
    let at : from + 0 ≡ from = omega arith in
    let place : k + 0 ≡ k = omega arith in
    let here : f from ≡ length (chunk_at chunk k bytes) = rw (at, place) at (e 0 (omega arith)) in
    let rest = total_chunks f chunk (suc from) (suc k) left bytes
    (λ i h.
    let s : from + suc i ≡ suc from + i = omega arith in
    let t : k + suc i ≡ suc k + i = omega arith in
    rw (s, t) at (e (suc i) (omega arith))) in
    omega (arith, here, rest, length-append (chunk_at chunk k bytes) (joined (chunks_from chunk (suc k) left bytes)))
