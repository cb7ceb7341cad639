-- Any two results that a promise allows are equal: the answer and every lent byte. Assumes nothing.
use Prim.Native.Nat.{ℕ}
use mathlib.Core.Path.{◌≡◌, ap}
use mathlib.Core.List.{List}
use Rattle.std.specs.Prelude.{Result}
use Rattle.terms.specs.declared.Refusal.{Refusal}
use Rattle.terms.specs.declared.StreamId.{StreamId}
use Rattle.terms.specs.Lists.{◌at_front_of◌}
use Rattle.terms.proofs.Determined.{determined, said_of_one}
use Rattle.receiver_state.specs.declared.Receiver.{Receiver}
use Rattle.receiver_ack.specs.Missing.{missing_of}
use Rattle.receiver_ack.specs.Fields.{ack_fields_of}
use Rattle.receiver_ack.specs.Acknowledge.{Acknowledges, acknowledge_of, acknowledged}
use Rattle.receiver_ack.specs.declared.AckFields.{AckFields}

pub acknowledge_determined : (r : Receiver) (send recv : StreamId) (output : List ℕ) (a b : Result ℕ Refusal) (x y : List ℕ)
    → acknowledged a x ≡ acknowledge_of r send recv output → acknowledged b y ≡ acknowledge_of r send recv output → (a ≡ b) × (x ≡ y)
acknowledge_determined r send recv output a b x y p q =
    let e = determined p q in
    (said_of_one a b (ap (λ (o : Acknowledges). o.says) e), ap (λ (o : Acknowledges). o.output) e)

pub fields_determined : (r : Receiver) (table : List ℕ) (a b : AckFields) (x y : List ℕ)
    → a ≡ ack_fields_of r → x ≡ missing_of r at_front_of table → b ≡ ack_fields_of r → y ≡ missing_of r at_front_of table → (a ≡ b) × (x ≡ y)
fields_determined r table a b x y p q s t = (determined p s, determined q t)
