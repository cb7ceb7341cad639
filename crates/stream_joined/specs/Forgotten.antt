-- What is promised of every run of a sender and a receiver that are joined: nothing is forgotten that was not received.
use Rattle.std.specs.Prelude.{ℕ, ◌+◌, ◌-◌, ◌≤◌, ◌≡◌, ◌&&◌, List, [], ◌∷◌, ◌⊎◌, leb, ltb, get_or}
use Rattle.std.proofs.Math.Option.{Option, none, some, or_else}
use Rattle.terms.specs.Ladder.{◌when◌else◌}
use Rattle.terms.specs.Answers.{Said, refusal, values}
use Rattle.receiver_calls.specs.Meaning as Receiving
use Rattle.receiver_runs.specs.History.{taken_in, first_of}
use Rattle.sender_meaning.specs.Meaning.{gone, standing}
use Rattle.sender_meaning.specs.Steps.{chunk_at}
use Rattle.sender_runs.specs.Runs as S
use Rattle.stream_joined.specs.Moves.{Ends, Moves, sender_end, receiver_end, sender_history, receiver_history}

-- the chunk that a submit that was done put under a number: it gives as many numbers as it answers, from next on
abbrev pub chunk_by : ℕ → ℕ → S.Call → ℕ → Said → Option (List ℕ)
chunk_by chunk n (S.submit r to from bytes) next (values given) =
    some (chunk_at chunk (n - next) bytes) when leb next n && ltb n (next + get_or given 0 0) else none
chunk_by chunk n (S.submit r to from bytes) next (refusal why) = none
chunk_by chunk n (S.send clock output) next says = none
chunk_by chunk n (S.acks through nacks clock) next says = none
chunk_by chunk n (S.resend clock path) next says = none
chunk_by chunk n (S.fetch rank output) next says = none

abbrev pub chunk_in : ℕ → ℕ → List S.Event → Option (List ℕ)
chunk_in chunk n [] = none
chunk_in chunk n (e ∷ rest) = or_else (chunk_by chunk n e.asked e.next e.answered) (chunk_in chunk n rest)

module _ (ends : Ends) (moves : Moves) where
  -- the bytes submitted under a number, if there are any
  abbrev pub submitted_at : ℕ → Option (List ℕ)
  submitted_at n = chunk_in ends.chunk n (sender_history ends moves)

  -- the sender has dropped a number from its tables: one of its own, which is made and neither waits nor flies
  pub record Dropped (n : ℕ) : Type 0 where
    pub from_first : ends.first.0 ≤ n
    pub not_there : standing (sender_end ends moves).state (sender_end ends moves).store n ≡ gone

  -- the receiver holds it, with these bytes, or a take gave it, with these bytes
  abbrev pub HeldThere : ℕ → List ℕ → Type 0
  HeldThere n bytes = Receiving.standing (receiver_end ends moves).state (receiver_end ends moves).store n ≡ Receiving.held bytes

  abbrev pub TakenThere : ℕ → List ℕ → Type 0
  TakenThere n bytes = first_of n (taken_in (receiver_history ends moves)) ≡ some bytes

  pub record Received (n : ℕ) : Type 0 where
    pub bytes : List ℕ
    pub as_submitted : submitted_at n ≡ some bytes
    pub received : HeldThere n bytes ⊎ TakenThere n bytes

  -- 1. Every number that the sender has dropped from its tables is held or taken at the receiver, with the bytes submitted.
  pub record NothingForgotten : Type 0 where
    pub dropped_received : (n : ℕ) → Dropped n → Received n
