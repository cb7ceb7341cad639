-- Any two results that a promise allows are equal: answer, state and every lent byte. Assumes nothing.
use Prim.Native.Nat.{ℕ}
use mathlib.Core.Path.{◌≡◌, ap}
use mathlib.Core.List.{List}
use Rattle.std.specs.Prelude.{Result}
use Rattle.terms.specs.declared.Refusal.{Refusal}
use Rattle.terms.specs.declared.SeqNo.{SeqNo}
use Rattle.terms.proofs.Determined.{determined, said_one, said_of_one}
use Rattle.receiver_state.specs.Answers.{Outcome}
use Rattle.receiver_state.specs.declared.Receiver.{Receiver}
use Rattle.receiver_calls.specs.Accept.{accept_of, accepted, accepted_behind}
use Rattle.receiver_calls.specs.Take.{take_of, took, took_behind}
use Rattle.receiver_calls.specs.declared.Accepted.{Accepted}
use Rattle.receiver_calls.specs.declared.Taken.{Taken}

pub accept_in_determined : (r : Receiver) (number : SeqNo) (payload store : List ℕ) (a b : Result (Unit {0}) Refusal) (s t : Receiver) (x y : List ℕ)
    → accepted_behind a s x ≡ accept_of r number payload store → accepted_behind b t y ≡ accept_of r number payload store → (a ≡ b) × (s ≡ t) × (x ≡ y)
accept_in_determined r number payload store a b s t x y p q =
    let e = determined p q in
    (said_one a b (ap (λ (o : Outcome). o.says) e), ap (λ (o : Outcome). o.state) e, ap (λ (o : Outcome). o.lent) e)

pub take_in_determined : (r : Receiver) (store output : List ℕ) (a b : Result ℕ Refusal) (s t : Receiver) (x y : List ℕ)
    → took_behind a s x ≡ take_of r store output → took_behind b t y ≡ take_of r store output → (a ≡ b) × (s ≡ t) × (x ≡ y)
take_in_determined r store output a b s t x y p q =
    let e = determined p q in
    (said_of_one a b (ap (λ (o : Outcome). o.says) e), ap (λ (o : Outcome). o.state) e, ap (λ (o : Outcome). o.lent) e)

-- the calls by value
pub accept_determined : (r : Receiver) (number : SeqNo) (payload store : List ℕ) (a b : Accepted) (x y : List ℕ)
    → accepted a x ≡ accept_of r number payload store → accepted b y ≡ accept_of r number payload store → (a ≡ b) × (x ≡ y)
accept_determined r number payload store a b x y p q =
    let e = accept_in_determined r number payload store a.answer b.answer a.state b.state x y p q in
    (λ k. record { answer = e.0 k; state = e.1 k }, e.2)

pub take_determined : (r : Receiver) (store output : List ℕ) (a b : Taken) (x y : List ℕ)
    → took a x ≡ take_of r store output → took b y ≡ take_of r store output → (a ≡ b) × (x ≡ y)
take_determined r store output a b x y p q =
    let e = take_in_determined r store output a.answer b.answer a.state b.state x y p q in
    (λ k. record { answer = e.0 k; state = e.1 k }, e.2)
