-- `sender_check::places_hold` meets its contract: after i turns the flag speaks of the first i places. Assumes nothing.
use Rattle.std.proofs.Common.{◌≡◌}
use Rattle.sender_state.specs.Places.{places_of}
use Rattle.sender_check.specs.Steps.{every, holds_at}
use Rattle.sender_check.proofs.places_hold.Given as goal

abbrev pub invariant-loop-i : goal.invariant-loop-i
invariant-loop-i l = l.ok ≡ every l.i (holds_at l.limits (places_of l.s))
