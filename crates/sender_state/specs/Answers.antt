-- What calls on a sender say and leave.
use Rattle.std.specs.Prelude.{ℕ, List}
use Rattle.terms.specs.Answers.{Said}
use Rattle.sender_state.specs.declared.Sender.{Sender}

-- what a call says, the state after it, and what it was lent to change, as it leaves it
pub record Outcome : Type 0 where
  pub says : Said
  pub state : Sender
  pub lent : List ℕ
