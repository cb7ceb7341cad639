-- Any two results that the promise allows are equal: every answer, both halves, and every byte of the store. Assumes nothing.
use Prim.Native.Nat.{ℕ}
use mathlib.Core.Path.{◌≡◌, refl, ap}
use mathlib.Core.List.{List}
use Rattle.std.specs.Prelude.{Result, Option, Some, None}
use Rattle.terms.specs.declared.Refusal.{Refusal}
use Rattle.terms.proofs.Determined.{determined, said_one, said_of_one}
use Rattle.receiver_state.specs.declared.Receiver.{Receiver}
use Rattle.sender_state.specs.declared.Sender.{Sender}
use Rattle.replay_arrival.specs.Arrive.{said_acks, said_accept, Arriving, arrive_of, arrived}
use Rattle.replay_arrival.specs.declared.Arrived.{Arrived}

pub acks_one : (a b : Option (Result ℕ Refusal)) → said_acks a ≡ said_acks b → a ≡ b
acks_one None None e = refl
acks_one None (Some y) e = cc
acks_one (Some x) None e = cc
acks_one (Some x) (Some y) e = ap Some (said_of_one x y cc)

pub accept_one : (a b : Option (Result (Unit {0}) Refusal)) → said_accept a ≡ said_accept b → a ≡ b
accept_one None None e = refl
accept_one None (Some y) e = cc
accept_one (Some x) None e = cc
accept_one (Some x) (Some y) e = ap Some (said_one x y cc)

pub arrive_determined : (packet : List ℕ) (clock : ℕ) (receiver : Receiver) (sender : Sender) (store : List ℕ) (a b : Arrived) (x y : List ℕ)
    → arrived a x ≡ arrive_of packet clock receiver sender store → arrived b y ≡ arrive_of packet clock receiver sender store → (a ≡ b) × (x ≡ y)
arrive_determined packet clock receiver sender store a b x y p q =
    let e = determined p q in (
      λ k. record {
        read = said_one a.read b.read (ap (λ (o : Arriving). o.read) e) k;
        acks = acks_one a.acks b.acks (ap (λ (o : Arriving). o.acks) e) k;
        accept = accept_one a.accept b.accept (ap (λ (o : Arriving). o.accept) e) k;
        receiver = (e k).receiver;
        sender = (e k).sender;
      },
      ap (λ (o : Arriving). o.store) e,
    )
