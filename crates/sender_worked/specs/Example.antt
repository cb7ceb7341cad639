-- A run in which something happens: two bytes are submitted, in chunks of one; the first leaves, and acks name it. So what is promised of every run
-- of a sender is promised of something.
use Rattle.std.specs.Prelude.{ℕ, refl, List, [], ◌∷◌, ◌++◌, replicate}
use Rattle.terms.specs.declared.StreamId.{StreamId}
use Rattle.terms.specs.Answers.{Said, values}
use Rattle.receiver_state.specs.Start.{fresh}
use Rattle.sender_state.specs.Rules.{sizes_fit, counts_fit}
use Rattle.sender_state.specs.Start.{start_said}
use Rattle.sender_runs.specs.Runs.{Event, Run, submit, send, acks}

abbrev id : StreamId
id = record { 0 = 7 }

abbrev pub example : Run
unfolding sizes_fit counts_fit start_said
example = record {
  -- the first number 1, chunks of one byte, two places
  first = record { 0 = 1 };
  chunk = 1;
  count = 2;
  store = replicate 2090 0;
  started = refl;
  width = refl;
  calls =
      submit (fresh (record { 0 = 0 }) 1) id id (65 ∷ 66 ∷ []) ∷
      send 10 (replicate 25 9) ∷
      acks 1 [] 20 ∷
      [];
}

-- what a call answers, and what it leaves of its output
pub record Heard : Type 0 where
  pub says : Said
  pub left : List ℕ

abbrev pub heard_in : List Event → List Heard
heard_in [] = []
heard_in (e ∷ rest) = record { says = e.answered; left = e.output } ∷ heard_in rest

-- the first packet: both ids, number 1, ack-through 0, no NACK, resend delay, flags and option length 0, and its byte
abbrev pub first_packet : List ℕ
first_packet = 0 ∷ 0 ∷ 0 ∷ 7 ∷ 0 ∷ 0 ∷ 0 ∷ 7 ∷ 0 ∷ 0 ∷ 0 ∷ 1 ∷ 0 ∷ 0 ∷ 0 ∷ 0 ∷ 0 ∷ 0 ∷ 0 ∷ 0 ∷ 0 ∷ 0 ∷ 65 ∷ []

-- two packets are made; number 1 leaves, with 23 bytes; one is acknowledged
abbrev pub heard : List Heard
heard =
    record { says = values (2 ∷ []); left = [] } ∷
    record { says = values (1 ∷ 23 ∷ []); left = first_packet ++ replicate 2 9 } ∷
    record { says = values (1 ∷ []); left = [] } ∷
    []
