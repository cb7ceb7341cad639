-- Any two results that the promise allows are equal. Assumes nothing.
use Prim.Native.Nat.{ℕ}
use mathlib.Core.Path.{◌≡◌}
use Rattle.std.specs.Prelude.{Result}
use Rattle.terms.specs.Answers.{said_of}
use Rattle.terms.specs.declared.Refusal.{Refusal}
use Rattle.terms.proofs.Determined.{determined, said_of_one}
use Rattle.receiver_state.specs.declared.Receiver.{Receiver}
use Rattle.sender_state.specs.declared.Sender.{Sender}
use Rattle.sender_submit_answer.specs.Answer.{submit_said}

pub judge_determined : (s : Sender) (r : Receiver) (size store_length : ℕ) (a b : Result ℕ Refusal) → said_of a ≡ submit_said s r size store_length
    → said_of b ≡ submit_said s r size store_length → a ≡ b
judge_determined s r size store_length a b p q = said_of_one a b (determined p q)
