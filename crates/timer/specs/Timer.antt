-- Document 01's timer: RFC 6298 in whole milliseconds, every division rounded down. R is the sample. The deviation is that of document 02, request [3]:
-- measured against RTT before its update, as RFC 6298, section 2.3, has it.
use Rattle.std.specs.Prelude.{ℕ, ◌+◌, ◌-◌, ◌*◌, ◌/◌, ◌^◌, max, min, Bool, true, ◌&&◌, ltb, Option, Some, None}
use Rattle.timer.specs.declared.Sampled.{Sampled}

-- the larger less the smaller
abbrev pub ∣◌−◌∣ : ℕ → ℕ → ℕ
∣ a − b ∣ = max a b - min a b

-- deviation' = (3·deviation + |RTT − R|)/4
abbrev pub deviation_of : ℕ → ℕ → ℕ → ℕ
deviation_of rtt deviation R = (3 * deviation + ∣ rtt − R ∣) / 4

-- then RTT' = (7·RTT + R)/8
abbrev pub smoothed_of : ℕ → ℕ → ℕ
smoothed_of rtt R = (7 * rtt + R) / 8

-- first sample: RTT = R, deviation = R/2; later: both as above
unfoldable pub sampled_of : Option Sampled → ℕ → Option Sampled
sampled_of None R = Some (record { rtt = R; deviation = R / 2 })
sampled_of (Some t) R = Some (record { rtt = smoothed_of t.rtt R; deviation = deviation_of t.rtt t.deviation R })

-- held to 1,000 to 60,000
abbrev pub held_of : ℕ → ℕ
held_of time = max 1000 (min time 60000)

-- RTO = RTT + 4·deviation, held; before a sample 9,000
unfoldable pub rto_of : Option Sampled → ℕ
rto_of None = 9000
rto_of (Some t) = held_of (t.rtt + 4 * t.deviation)

-- the rule of a state: RTT and deviation below 2^32
unfoldable pub timing_fits : Option Sampled → Bool
timing_fits None = true
timing_fits (Some t) = ltb t.rtt (2 ^ 32) && ltb t.deviation (2 ^ 32)
