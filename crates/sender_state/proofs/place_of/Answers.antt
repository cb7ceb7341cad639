-- `sender_state::place_of` meets its contract: the library's search finds the place. Assumes nothing.
use mathlib.Core.Path.{◌∙◌}
use Rattle.sender_state.proofs.Folds.{place_position}
use Rattle.sender_state.proofs.place_of.Goals as goal

pub returns : goal.returns
returns c = c.unwrap_or.ensures ∙ rw c.found.ensures (place_position c.args.numbers.now c.args.number)
