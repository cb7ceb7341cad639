-- Document 01's window: how many packets may be in flight, and its steps.
use Rattle.std.specs.Prelude.{ℕ, ◌+◌, ◌-◌, ◌*◌, leb, ltb}
use Rattle.terms.specs.Ladder.{◌when◌else◌}

-- after an acknowledged packet: under 64 it doubles, from 64 to 127 it grows by 1, and otherwise it stays
unfoldable pub grown_of : ℕ → ℕ
grown_of window =
    2 * window when ltb window 64 else
    window + 1 when leb window 127 else
    window

-- after a resend: above 1 it falls by 1
unfoldable pub fallen_of : ℕ → ℕ
fallen_of window = window - 1 when ltb 1 window else window
