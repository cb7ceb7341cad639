-- Each promise of `packet_read` allows one result only. Assumes nothing.
use Prim.Native.Nat.{ℕ}
use mathlib.Core.Path.{◌≡◌}
use mathlib.Core.Bool.{Bool}
use mathlib.Core.List.{List}
use Rattle.std.specs.Prelude.{Option, Some, None, Result}
use Rattle.terms.specs.Answers.{saying}
use Rattle.terms.specs.Ladder.{◌when◌else◌}
use Rattle.terms.specs.declared.Refusal.{Refusal}
use Rattle.terms.proofs.Determined.{determined, saying_one}
use Rattle.packet_read.specs.Destination.{signs_of, is_destination}
use Rattle.packet_read.specs.Reading.{read_of}
use Rattle.packet_read.specs.declared.Packet.{Packet}

pub read_determined : (packet : List ℕ) (a b : Result Packet Refusal) → saying a ≡ read_of packet → saying b ≡ read_of packet → a ≡ b
read_determined packet a b p q = saying_one a b (determined p q)

pub signature_length_determined : (bytes : List ℕ) (a b : Option ℕ) → a ≡ (Some (signs_of bytes) when is_destination bytes else None)
    → b ≡ (Some (signs_of bytes) when is_destination bytes else None) → a ≡ b
signature_length_determined bytes a b p q = determined p q

-- of the layer below, the one that asks nothing
pub size_if_determined : (there : Bool) (size a b : ℕ) → a ≡ (size when there else 0) → b ≡ (size when there else 0) → a ≡ b
size_if_determined there size a b p q = determined p q
