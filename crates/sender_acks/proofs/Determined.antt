-- Any two results that a promise allows are equal: answer and state. Assumes nothing.
use Prim.Native.Nat.{ℕ}
use mathlib.Core.Path.{◌≡◌, ap}
use mathlib.Core.List.{List}
use Rattle.terms.proofs.Determined.{determined, said_of_one}
use Rattle.sender_state.specs.Answers.{Outcome}
use Rattle.sender_state.specs.declared.Sender.{Sender}
use Rattle.sender_acks.specs.Acks.{acks_of, acked_out}
use Rattle.sender_acks.specs.declared.Acked.{Acked}

pub acks_determined : (s : Sender) (through : ℕ) (nacks : List ℕ) (clock : ℕ) (a b : Acked) → acked_out a ≡ acks_of s through nacks clock → acked_out b ≡ acks_of s through nacks clock → a ≡ b
acks_determined s through nacks clock a b p q =
    let e = determined p q in
    λ k. record { answer = said_of_one a.answer b.answer (ap (λ (o : Outcome). o.says) e) k; state = (e k).state }
