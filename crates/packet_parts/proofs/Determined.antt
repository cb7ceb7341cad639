-- Each promise of `packet_parts` allows one result only. Assumes nothing.
use Prim.Native.Nat.{ℕ}
use mathlib.Core.Path.{◌≡◌}
use mathlib.Core.List.{List}
use Rattle.terms.proofs.Determined.{determined}
use Rattle.packet_read.specs.Reading.{nacks_of, destination_of, signature_of, payload_of}

pub nacks_determined : (packet a b : List ℕ) → a ≡ nacks_of packet → b ≡ nacks_of packet → a ≡ b
nacks_determined packet a b p q = determined p q

pub destination_determined : (packet a b : List ℕ) → a ≡ destination_of packet → b ≡ destination_of packet → a ≡ b
destination_determined packet a b p q = determined p q

pub signature_determined : (packet a b : List ℕ) → a ≡ signature_of packet → b ≡ signature_of packet → a ≡ b
signature_determined packet a b p q = determined p q

pub payload_determined : (packet a b : List ℕ) → a ≡ payload_of packet → b ≡ payload_of packet → a ≡ b
payload_determined packet a b p q = determined p q
