-- What is answered in the two runs, and why 2 is not delivered in the first: held behind a gap, whose smallest missing number is 1. The definitions compute it. Assumes nothing.
use mathlib.Core.Path.{◌≡◌, refl}
use mathlib.Core.List.{[], ◌∷◌}
use Rattle.terms.specs.Answers.{values}
use Rattle.receiver_state.specs.Rules.{rules_of, slot_fits, sizes_fit}
use Rattle.receiver_state.specs.Start.{start_said}
use Rattle.receiver_calls.specs.Accept.{accept_said, entering, accept_of}
use Rattle.receiver_calls.specs.Take.{take_said, passing, take_of}
use Rattle.receiver_why.specs.Reasons.{first_missing, case_of, why_of}
use Rattle.receiver_runs.specs.Runs.{history_of, end_of}
use Rattle.receiver_worked.specs.Example.{seq, gapped, filled_in, answered_in, in_gapped, in_filled_in}

pub gapped_happens : answered_in (history_of gapped) ≡ in_gapped
unfolding rules_of slot_fits sizes_fit start_said accept_said entering accept_of take_said passing take_of
gapped_happens = refl

pub filled_in_happens : answered_in (history_of filled_in) ≡ in_filled_in
unfolding rules_of slot_fits sizes_fit start_said accept_said entering accept_of take_said passing take_of
filled_in_happens = refl

pub why_2 : why_of (end_of gapped).state (seq 2) ≡ values (5 ∷ 1 ∷ [])
unfolding rules_of slot_fits sizes_fit start_said accept_said entering accept_of take_said passing take_of first_missing case_of why_of
why_2 = refl
