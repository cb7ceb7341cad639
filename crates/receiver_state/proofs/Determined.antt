-- Any two results that a promise allows are equal: answer and state. Assumes nothing.
use Prim.Native.Nat.{ℕ}
use mathlib.Core.Path.{◌≡◌, ap}
use mathlib.Core.Bool.{Bool}
use mathlib.Core.List.{List}
use lib.ListN.{length}
use Rattle.terms.specs.declared.SeqNo.{SeqNo}
use Rattle.terms.proofs.Determined.{determined, said_one}
use Rattle.receiver_state.specs.Answers.{Outcome}
use Rattle.receiver_state.specs.Rules.{rules_of, slot_fits, sizes_fit}
use Rattle.receiver_state.specs.Start.{start_of, started}
use Rattle.receiver_state.specs.declared.Receiver.{Receiver}
use Rattle.receiver_state.specs.declared.Started.{Started}

pub start_determined : (s : SeqNo) (slot : ℕ) (store : List ℕ) (a b : Started) → started a ≡ start_of s slot (length store) → started b ≡ start_of s slot (length store) → a ≡ b
start_determined s slot store a b p q =
    let e = determined p q in
    λ k. record { answer = said_one a.answer b.answer (ap (λ (o : Outcome). o.says) e) k; state = (e k).state }

pub rules_hold_determined : (r : Receiver) (a b : Bool) → a ≡ rules_of r → b ≡ rules_of r → a ≡ b
rules_hold_determined r a b p q = determined p q

pub slot_fits_determined : (slot : ℕ) (a b : Bool) → a ≡ slot_fits slot → b ≡ slot_fits slot → a ≡ b
slot_fits_determined slot a b p q = determined p q

pub sizes_fit_determined : (slot store_length : ℕ) (a b : Bool) → a ≡ sizes_fit slot store_length → b ≡ sizes_fit slot store_length → a ≡ b
sizes_fit_determined slot store_length a b p q = determined p q
