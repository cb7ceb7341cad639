-- Two runs in which something happens. In the first 2 comes before 1, and once more with another byte, so that 1 is a gap. In the second 1 fills it, and both are
-- taken. So what is promised of every run of a receiver, demand 3 and that why agrees with the history, is promised of something.
use Rattle.std.specs.Prelude.{ℕ, refl, List, [], ◌∷◌, replicate}
use Rattle.terms.specs.declared.SeqNo.{SeqNo}
use Rattle.terms.specs.Answers.{Said, refusal, values}
use Rattle.receiver_state.specs.Rules.{slot_fits, sizes_fit}
use Rattle.receiver_state.specs.Start.{start_said}
use Rattle.receiver_runs.specs.Runs.{Event, Run, accept, take}

abbrev pub seq : ℕ → SeqNo
seq n = record { 0 = n }

-- started after 0, with slots of one byte
abbrev pub gapped : Run
unfolding slot_fits sizes_fit start_said
gapped = record {
  s = seq 0;
  slot = 1;
  store = replicate 512 0;
  started = refl;
  calls = accept (seq 2) (66 ∷ []) ∷ accept (seq 2) (67 ∷ []) ∷ take (9 ∷ []) ∷ [];
  widths = refl;
}

abbrev pub filled_in : Run
unfolding slot_fits sizes_fit start_said
filled_in = record {
  s = seq 0;
  slot = 1;
  store = replicate 512 0;
  started = refl;
  calls = accept (seq 2) (66 ∷ []) ∷ accept (seq 2) (67 ∷ []) ∷ accept (seq 1) (65 ∷ []) ∷ take (9 ∷ []) ∷ take (9 ∷ []) ∷ [];
  widths = refl;
}

-- what a call answers, and what it leaves of its output
pub record Answered : Type 0 where
  pub says : Said
  pub left : List ℕ

abbrev pub answered_in : List Event → List Answered
answered_in [] = []
answered_in (e ∷ rest) = record { says = e.answered; left = e.output } ∷ answered_in rest

-- the repeat is refused, and nothing is ready
abbrev pub in_gapped : List Answered
in_gapped =
    record { says = values []; left = [] } ∷
    record { says = refusal 15; left = [] } ∷
    record { says = refusal 17; left = 9 ∷ [] } ∷
    []

-- 1 is taken with its byte, and 2 with that of the first packet of its number
abbrev pub in_filled_in : List Answered
in_filled_in =
    record { says = values []; left = [] } ∷
    record { says = refusal 15; left = [] } ∷
    record { says = values []; left = [] } ∷
    record { says = values (1 ∷ []); left = 65 ∷ [] } ∷
    record { says = values (1 ∷ []); left = 66 ∷ [] } ∷
    []
