-- The two engines agree on every pair of times below 2 ^ 32: every number on the way is an eighth of a whole number below 2 ^ 35, so nothing is rounded. Assumes nothing.
use mathlib.Core.Path.{◌≡◌, refl, sym, ap, ap₂, ◌∙◌, subst}
use Prim.Native.Nat.{ℕ, min, ◌+◌, ◌-◌, ◌*◌, ◌/◌, ◌%◌, ◌^◌, ◌<◌}
use native.Mathlib.Nat.{mul_assoc, mul_comm, mul-div-mul_right, one-mul, lt_of_lt_of_le, lt_of_le_of_lt, le_of_lt, mul-le-mul, mod-le}
use native.Mathlib.Omega.{arith}
use mathlib.Core.Bool.{true, false, true≢false}
use lib.IntN.{pos, negsuc}
use lib.Dec.{T, le→leb, lit≤, lit<}
use lib.Pow.{pow_mono, shl_lt}
use lib.Ieee.{Float, nan, inf, fin, up, down, binary64, round, of_bits, of_int, mul, rem, to_unsigned, in_unsigned, in_float}
use lib.Ieee.Fits.{down_pos}
use lib.Ieee.Exact.{HasValue, round_exact}
use lib.Ieee.Scale.{round_same}
use lib.Ieee.Back.{round_whole, unsigned_back}
use Rattle.timer.specs.Timer.{smoothed_of}
use Rattle.timer_float.specs.Float.{mix_of, cut_of, float_of}
use Rattle.timer_float.specs.Engines.{EnginesAgree}
use Rattle.timer_float.proofs.Values.{mul_value, add_value, rem_one, sub_value}

-- an eighth of a whole number below 2 ^ 53 is an f64
pub eighth : (v : ℕ) → v < 2 ^ 53 → HasValue (round binary64 false v 8) false v 8
eighth v h =
    round_exact binary64 false v 8 v 1071 (lit< tt) h
    (lt_of_lt_of_le (shl_lt 53 1071 h) (pow_mono {i = 1124} {j = 2098} (lit≤ tt)))
    (sym (mul_assoc v (2 ^ 1071) 8))

-- ---- the three constants of the source
seven_eighths : of_bits binary64 0x3fec_0000_0000_0000 ≡ fin false 7 (negsuc 2)
unfolding of_bits
seven_eighths = refl

one_eighth : of_bits binary64 0x3fc0_0000_0000_0000 ≡ fin false 1 (negsuc 2)
unfolding of_bits
one_eighth = refl

one : of_bits binary64 0x3ff0_0000_0000_0000 ≡ fin false 1 (pos 0)
unfolding of_bits
one = refl

-- ---- a time as a float
pub time_fits : (n : ℕ) → n < 4294967296 → T (in_float binary64 (pos n))
unfolding in_float
time_fits n h = le→leb n (2 ^ 53) (omega arith)

time_value : (n : ℕ) → n < 4294967296 → HasValue (of_int binary64 (pos n)) false n 1
unfolding of_int
time_value n h = round_whole binary64 false n (omega arith)

-- k eighths of a time
part_value : (k n : ℕ) → k < 8 → n < 4294967296 → HasValue (mul binary64 (fin false k (negsuc 2)) (of_int binary64 (pos n))) false (k * n) 8
part_value k n h l =
    subst (λ (x : Float). HasValue x false (k * n) 8)
    (sym (mul_value binary64 (fin false k (negsuc 2)) (of_int binary64 (pos n)) k 8 n 1 (lit< tt) (lit< tt) (refl, mul_right k) (time_value n l)))
    (eighth (k * n) (small k n h l))
  where
    mul_right : (k : ℕ) → k * 1 * 8 ≡ k * 8
    mul_right k = omega arith

    small : (k n : ℕ) → k < 8 → n < 4294967296 → k * n < 2 ^ 53
    small k n h l = lt_of_le_of_lt (mul-le-mul (le_of_lt h) (le_of_lt l)) (lit< tt)

module _ (old sample : ℕ) (o : old < 4294967296) (s : sample < 4294967296) where
  mix_value : HasValue (mix_of old sample) false (7 * old + sample) 8
  unfolding mix_of
  mix_value =
      let a : HasValue (mul binary64 (of_bits binary64 0x3fec_0000_0000_0000) (of_int binary64 (pos old))) false (7 * old) 8 =
      subst (λ (x : Float). HasValue (mul binary64 x (of_int binary64 (pos old))) false (7 * old) 8) (sym seven_eighths) (part_value 7 old (lit< tt) o) in
      let b : HasValue (mul binary64 (of_bits binary64 0x3fc0_0000_0000_0000) (of_int binary64 (pos sample))) false sample 8 =
      subst (λ (x : Float). HasValue (mul binary64 x (of_int binary64 (pos sample))) false sample 8) (sym one_eighth)
      (subst (λ (x : ℕ). HasValue (mul binary64 (fin false 1 (negsuc 2)) (of_int binary64 (pos sample))) false x 8) (one-mul sample) (part_value 1 sample (lit< tt) s)) in
      subst (λ (x : Float). HasValue x false (7 * old + sample) 8)
      (sym (add_value binary64 (mul binary64 (of_bits binary64 0x3fec_0000_0000_0000) (of_int binary64 (pos old)))
      (mul binary64 (of_bits binary64 0x3fc0_0000_0000_0000) (of_int binary64 (pos sample))) (7 * old) sample 8 (lit< tt) a b))
      (eighth (7 * old + sample) (omega arith))

-- ---- the fraction is taken off
cut_is : (x : Float) (v : ℕ) → v < 2 ^ 53 → HasValue x false v 8 → cut_of x ≡ of_int binary64 (pos (v / 8))
unfolding cut_of of_int
cut_is x v h k =
    let r : rem binary64 x (of_bits binary64 0x3ff0_0000_0000_0000) ≡ round binary64 false (v % 8) 8 =
    ap (λ (y : Float). rem binary64 x y) one ∙ rem_one binary64 x v 8 (lit< tt) k in
    let p : HasValue (rem binary64 x (of_bits binary64 0x3ff0_0000_0000_0000)) false (v % 8) 8 =
    subst (λ (y : Float). HasValue y false (v % 8) 8) (sym r) (eighth (v % 8) (lt_of_le_of_lt (mod-le v 8) h)) in
    sub_value binary64 x (rem binary64 x (of_bits binary64 0x3ff0_0000_0000_0000)) v (v % 8) 8 (lit< tt) (mod-le v 8) k p
    ∙ round_same binary64 false (v - v % 8) 8 (v / 8) 1 (lit< tt) (lit< tt) (whole v)
  where
    whole : (v : ℕ) → (v - v % 8) * 1 ≡ v / 8 * 8
    whole v = omega arith

-- ---- a cast cuts: what Rust's `as u64` makes of an eighth of a whole number
quotient : (a d v : ℕ) → 0 < d → a * 8 ≡ v * d → a / d ≡ v / 8
quotient a d v h e = sym (mul-div-mul_right {m = 8} a d (lit< tt)) ∙ ap₂ (λ (x y : ℕ). x / y) e (mul_comm d 8) ∙ mul-div-mul_right {m = d} v 8 h

cast_cuts : (x : Float) (v : ℕ) → v < 2 ^ 53 → HasValue x false v 8 → to_unsigned 64 x ≡ v / 8
unfolding to_unsigned
cast_cuts nan v h k = absurd k
cast_cuts (inf s) v h k = absurd k
cast_cuts (fin true m e) v h k = absurd (true≢false k.0)
cast_cuts (fin false m e) v h k = rw (quotient (m * up e) (down e) v (down_pos e) k.1) (min_small v h)
  where
    min_small : (v : ℕ) → v < 2 ^ 53 → min (v / 8) (2 ^ 64 - 1) ≡ v / 8
    min_small v h = omega arith

module _ (old sample : ℕ) (o : old < 4294967296) (s : sample < 4294967296) where
  cut_mix : cut_of (mix_of old sample) ≡ of_int binary64 (pos ((7 * old + sample) / 8))
  cut_mix = cut_is (mix_of old sample) (7 * old + sample) (omega arith) (mix_value old sample o s)

  back : T (in_unsigned binary64 64 (of_int binary64 (pos ((7 * old + sample) / 8)))) × (to_unsigned 64 (of_int binary64 (pos ((7 * old + sample) / 8))) ≡ (7 * old + sample) / 8)
  back = unsigned_back binary64 64 ((7 * old + sample) / 8) (time_fits ((7 * old + sample) / 8) (omega arith)) (omega arith)

  -- what is left is a whole number that a u64 holds: a cast of it loses nothing
  pub cast_fits : T (in_unsigned binary64 64 (cut_of (mix_of old sample)))
  cast_fits = subst (λ (x : Float). T (in_unsigned binary64 64 x)) (sym cut_mix) back.0

  -- the cast cuts the mix as the definition does
  pub cast_is : to_unsigned 64 (mix_of old sample) ≡ float_of old sample
  unfolding float_of
  cast_is = cast_cuts (mix_of old sample) (7 * old + sample) (omega arith) (mix_value old sample o s) ∙ sym (ap (to_unsigned 64) cut_mix ∙ back.1)

  pub agree : float_of old sample ≡ smoothed_of old sample
  unfolding float_of
  agree = ap (to_unsigned 64) cut_mix ∙ back.1

-- the theorem
pub engines_agree : EnginesAgree
engines_agree old sample o s = agree old sample (omega arith) (omega arith)
