-- What leaves in every run of a sender: each send and each fetch that is done puts a packet at its output's front, and that is the packet as it was
-- made when its bytes were submitted.
use Rattle.std.specs.Prelude.{ℕ, ◌≡◌, true, false, List, [], ◌∷◌, ◌++◌, length}
use Rattle.std.proofs.Math.Option.{some}
use Rattle.terms.specs.Lists.{◌at_front_of◌}
use Rattle.terms.specs.Answers.{values}
use Rattle.sender_runs.specs.Runs.{send, fetch, Event, Run, history_of}
use Rattle.sender_runs.specs.Remembers.{made_in, sent_in, acked_in}

-- an event of a run, with those before it and those after it
abbrev pub Happens : Run → List Event → Event → List Event → Type 0
Happens run earlier e later = history_of run ≡ earlier ++ (e ∷ later)

-- the packet that earlier events made under a number stands at the front of an output, as long as the answer says; what is behind it stays
pub record AsMade (run : Run) (earlier : List Event) (n size : ℕ) (output left : List ℕ) : Type 0 where
  pub packet : List ℕ
  pub was_made : made_in run.chunk n earlier ≡ some packet
  pub size_is : size ≡ length packet
  pub left_is : left ≡ packet at_front_of output

-- a send that was done: the number that it tells, and its packet
pub record SendLeaves (run : Run) (earlier : List Event) (e : Event) (output given : List ℕ) : Type 0 where
  pub number : ℕ
  pub size : ℕ
  pub given_is : given ≡ number ∷ size ∷ []
  pub as_made : AsMade run earlier number size output e.output

-- a fetch that was done: a number that a send told and that acks did not name since, and its packet
pub record FetchLeaves (run : Run) (earlier : List Event) (e : Event) (output given : List ℕ) : Type 0 where
  pub number : ℕ
  pub size : ℕ
  pub given_is : given ≡ size ∷ []
  pub was_sent : sent_in number earlier ≡ true
  pub not_acked : acked_in number earlier ≡ false
  pub as_made : AsMade run earlier number size output e.output

pub record Leaves (run : Run) : Type 0 where
  pub by_send : (earlier later : List Event) (e : Event) → Happens run earlier e later → (clock : ℕ) (output given : List ℕ)
      → e.asked ≡ send clock output → e.answered ≡ values given → SendLeaves run earlier e output given
  pub by_fetch : (earlier later : List Event) (e : Event) → Happens run earlier e later → (rank : ℕ) (output given : List ℕ)
      → e.asked ≡ fetch rank output → e.answered ≡ values given → FetchLeaves run earlier e output given
