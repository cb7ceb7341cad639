-- A refused call leaves what lies behind the reference, and every lent byte, as it was. It follows from the promise alone, so it holds of both forms. Assumes nothing.
use Rattle.std.specs.Prelude.{Err}
use Prim.Native.Nat.{ℕ}
use mathlib.Core.Path.{◌≡◌, sym, ◌∙◌, ap}
use mathlib.Core.List.{List}
use Rattle.terms.specs.declared.SeqNo.{SeqNo}
use Rattle.terms.specs.declared.Refusal.{Refusal}
use Rattle.terms.specs.Refusals.{number_of}
use Rattle.receiver_state.specs.Answers.{Outcome}
use Rattle.receiver_calls.specs.Accept.{accept_of, accepted_behind}
use Rattle.receiver_calls.specs.Take.{take_of, took_behind}
use Rattle.receiver_state.specs.declared.Receiver.{Receiver}
use Rattle.receiver_calls.proofs.Laws.{accept_nothing, take_nothing}

module _ (r s : Receiver) (why : Refusal) (x : List ℕ) where
  pub accept_refused : (number : SeqNo) (payload store : List ℕ) → accepted_behind (Err why) s x ≡ accept_of r number payload store → (s ≡ r) × (x ≡ store)
  accept_refused number payload store e =
      let k = accept_nothing r number payload store (number_of why) (sym (ap (λ (o : Outcome). o.says) e)) in
      (ap (λ (o : Outcome). o.state) e ∙ k.0, ap (λ (o : Outcome). o.lent) e ∙ k.1)

  pub take_refused : (store output : List ℕ) → took_behind (Err why) s x ≡ take_of r store output → (s ≡ r) × (x ≡ output)
  take_refused store output e =
      let k = take_nothing r store output (number_of why) (sym (ap (λ (o : Outcome). o.says) e)) in
      (ap (λ (o : Outcome). o.state) e ∙ k.0, ap (λ (o : Outcome). o.lent) e ∙ k.1)
