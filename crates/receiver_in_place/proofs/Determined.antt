-- Any two results that a promise allows are equal: answer, the state behind the reference, and every lent byte. Both forms of a call have one promise, so one line serves both. Assumes nothing.
use Rattle.std.specs.Prelude.{ℕ, ◌≡◌, List, Result}
use Rattle.terms.specs.declared.Refusal.{Refusal}
use Rattle.terms.specs.declared.SeqNo.{SeqNo}
use Rattle.receiver_calls.specs.Accept.{accept_of, accepted_behind}
use Rattle.receiver_calls.specs.Take.{take_of, took_behind}
use Rattle.receiver_state.specs.declared.Receiver.{Receiver}
use Rattle.receiver_calls.proofs.Determined.{accept_in_determined, take_in_determined}

module _ (r s t : Receiver) (x y : List ℕ) where
  pub accept_determined : (number : SeqNo) (payload store : List ℕ) (a b : Result (Unit {0}) Refusal)
      → accepted_behind a s x ≡ accept_of r number payload store → accepted_behind b t y ≡ accept_of r number payload store → (a ≡ b) × (s ≡ t) × (x ≡ y)
  accept_determined number payload store a b p q = accept_in_determined r number payload store a b s t x y p q

  pub take_determined : (store output : List ℕ) (a b : Result ℕ Refusal)
      → took_behind a s x ≡ take_of r store output → took_behind b t y ≡ take_of r store output → (a ≡ b) × (s ≡ t) × (x ≡ y)
  take_determined store output a b p q = take_in_determined r store output a b s t x y p q
