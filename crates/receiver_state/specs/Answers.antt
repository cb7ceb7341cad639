-- What a call on a receiver leaves.
use Rattle.std.specs.Prelude.{ℕ, List}
use Rattle.terms.specs.Answers.{Said}
use Rattle.receiver_state.specs.declared.Receiver.{Receiver}

-- the whole outcome of a call: what it says, the state after it, and what it was lent to change, as it leaves it
pub record Outcome : Type 0 where
  pub says : Said
  pub state : Receiver
  pub lent : List ℕ
