-- The loop that takes samples in the order of numbers. Assumes nothing.
use Prim.Native.Nat.{ℕ, ◌+◌, ◌-◌, ◌≤◌, ◌<◌}
use mathlib.Core.Path.{◌≡◌}
use mathlib.Core.List.{List}
use native.Mathlib.Omega.{arith}
use lib.ListN.{length}
use Rattle.std.specs.Prelude.{Option, Some, None}
use Rattle.timer.specs.Window.{grown_of}
use Rattle.timer.specs.declared.Sampled.{Sampled}
use Rattle.sender_state.specs.Steps.{lowest_of, Tidy}
use Rattle.sender_state.specs.Table.{place_of}
use Rattle.sender_state.specs.Numbers.{run, numbers_where, marked_with}
use Rattle.sender_acks.specs.Acks.{timed_by, grown_by}
use Rattle.sender_acks.specs.Steps.{Measures}
use Rattle.sender_acks.specs.declared.Measured.{Measured}
use Rattle.sender_state.proofs.Search.{placed, ahead_some, ahead_none}

module _ (numbers flags : List ℕ) (measured : Option Sampled → ℕ → Option Sampled) (next : ℕ) (timing : Option Sampled) (window : ℕ) where
  abbrev all : List ℕ
  all = numbers_where numbers next (marked_with 1 flags)

  abbrev rest : ℕ → List ℕ
  rest from = run (λ n. marked_with 1 flags (place_of numbers n)) from (next - from)

  -- the samples so far, and the numbers that are left
  pub record Measuring (m : Measured) (from : ℕ) : Type 0 where
    pub inside : from ≤ next
    pub times : timed_by measured m.timing (rest from) ≡ timed_by measured timing all
    pub grows : grown_by m.window (rest from) ≡ grown_by window all
    pub counts : m.count + length (rest from) ≡ length all
    pub few : m.count ≤ from

  module _ (tidy : Tidy numbers flags 1 next) (m : Measured) (from : ℕ) (r : Measuring m from) where
    pub measure_end : lowest_of numbers flags 1 from ≡ None → Measures measured timing window all m
    measure_end e =
        let is = ahead_none numbers flags 1 next tidy from e in
        let c = rw is at r.counts in
        record { times = rw is at r.times; grows = rw is at r.grows; counts = omega (arith, c) }

    module _ (n : ℕ) (e : lowest_of numbers flags 1 from ≡ Some n) where
      pub measure_place : (place_of numbers n < 192) × (n < next) × (from ≤ n)
      measure_place =
          let f = ahead_some numbers flags 1 next tidy from n r.inside e in
          (placed numbers flags 1 next tidy n (f.passes), f.below, f.high)

      pub measure_more : (after : Measured) → after ≡ record { timing = measured m.timing n; window = grown_of m.window; count = m.count + 1 } → Measuring after (n + 1)
      measure_more after made =
          let f = ahead_some numbers flags 1 next tidy from n r.inside e in
          let is = f.more in
          let c = rw is at r.counts in
          rw made
          (record {
            inside = omega (arith, f.below);
            times = rw is at r.times;
            grows = rw is at r.grows;
            counts = omega (arith, c);
            few = omega (arith, r.few, f.high);
          })
