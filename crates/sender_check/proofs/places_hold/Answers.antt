-- `sender_check::places_hold` meets its contract: after i turns the flag speaks of the first i places. Assumes nothing.
use Rattle.sender_check.proofs.Every.{every_turn}
use Rattle.sender_check.proofs.places_hold.Goals as goal

pub loop-i-preserved : goal.loop-i-preserved
loop-i-preserved c = every_turn _ _ _ _ c.loop-i.invariant c.place_holds-ok.ensures
