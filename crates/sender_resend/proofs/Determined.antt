-- Any two results that the promise allows are equal: answer and state. Assumes nothing.
use Prim.Native.Nat.{ℕ}
use mathlib.Core.Path.{◌≡◌, ap}
use mathlib.Core.Bool.{Bool}
use Rattle.terms.proofs.Determined.{determined, said_of_one}
use Rattle.sender_state.specs.Answers.{Outcome}
use Rattle.sender_state.specs.declared.Sender.{Sender}
use Rattle.sender_resend.specs.Resend.{resend_of, resent_out}
use Rattle.sender_resend.specs.declared.Resent.{Resent}

pub resend_determined : (s : Sender) (clock : ℕ) (path : Bool) (a b : Resent) → resent_out a ≡ resend_of s clock path → resent_out b ≡ resend_of s clock path → a ≡ b
resend_determined s clock path a b p q =
    let e = determined p q in
    λ k. record { answer = said_of_one a.answer b.answer (ap (λ (o : Outcome). o.says) e) k; state = (e k).state }
