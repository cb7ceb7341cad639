-- Any two results that the promise allows are equal: answer, state and every lent byte. Assumes nothing.
use Prim.Native.Nat.{ℕ}
use mathlib.Core.Path.{◌≡◌, ap}
use mathlib.Core.List.{List}
use Rattle.terms.specs.declared.StreamId.{StreamId}
use Rattle.terms.proofs.Determined.{determined, said_of_one}
use Rattle.receiver_state.specs.declared.Receiver.{Receiver}
use Rattle.sender_state.specs.Answers.{Outcome}
use Rattle.sender_state.specs.declared.Sender.{Sender}
use Rattle.sender_submit.specs.Submit.{submit_of, submitted_out}
use Rattle.sender_submit.specs.declared.Submitted.{Submitted}

pub submit_determined : (s : Sender) (r : Receiver) (send recv : StreamId) (bytes store : List ℕ) (a b : Submitted) (x y : List ℕ)
    → submitted_out a x ≡ submit_of s r send recv bytes store → submitted_out b y ≡ submit_of s r send recv bytes store → (a ≡ b) × (x ≡ y)
submit_determined s r send recv bytes store a b x y p q =
    let e = determined p q in
    (λ k. record { answer = said_of_one a.answer b.answer (ap (λ (o : Outcome). o.says) e) k; state = (e k).state }, ap (λ (o : Outcome). o.lent) e)
