-- A destination is found wherever it stands: its form is told by its own bytes, so the same bytes are the same destination at the
-- front of a list, inside a packet, and cut out of it. Assumes nothing.
use Rattle.std.proofs.Common.{ℕ, ◌≡◌, ◌+◌, ◌≤◌, true, List, ◌++◌, length, drop, refl, arith}
use Rattle.std.proofs.lemmas.Grind.{common_steps}
use Rattle.terms.specs.Answers.{values}
use Rattle.wire.specs.BigEndian.{number_at}
use Rattle.wire.proofs.RoundTrip.{number_moved}
use Rattle.packet_read.specs.declared.Destination.{Destination}
use Rattle.packet_read.proofs.Form.{whole_form, form_whole}
use Rattle.packet_read.specs.Destination.{certificate_type, certificate_length, destination_in, signs_of, is_destination}

-- exactly one destination is whole, and signs as it says
whole_one : (d : List ℕ) → is_destination d ≡ true → destination_in d 0 (length d) ≡ values (record { size = length d; signs = signs_of d })
unfolding signs_of
whole_one d h = grind (arith, common_steps)

-- and what is whole is exactly one destination
pub one_whole : (bytes : List ℕ) (d : Destination) → destination_in bytes 0 (length bytes) ≡ values d → d.size ≡ length bytes → (signs_of bytes ≡ d.signs) × (is_destination bytes ≡ true)
unfolding destination_in signs_of
one_whole bytes d h e = grind (arith, common_steps)

-- the bytes d stand in p from a on
module _ (p d r : List ℕ) (a end : ℕ) (stands : drop a p ≡ d ++ r) where
  -- whose numbers are those of p there
  type_moved : 385 ≤ length d → certificate_type p a ≡ certificate_type d 0
  type_moved h = number_moved 1 384 a p d r stands (omega arith)

  length_moved : 387 ≤ length d → certificate_length p a ≡ certificate_length d 0
  length_moved h = number_moved 2 385 a p d r stands (omega arith)

  key_moved : 389 ≤ length d → number_at 2 (a + 387) p ≡ number_at 2 387 d
  key_moved h = number_moved 2 387 a p d r stands (omega arith)

  -- a destination that stands in an option area is found there
  pub destination_found : is_destination d ≡ true → a + length d ≤ end → destination_in p a end ≡ values (record { size = length d; signs = signs_of d })
  unfolding destination_in
  destination_found t h = let w = whole_one d t in grind (arith, common_steps, type_moved, length_moved, key_moved)

  alone : (s : ℕ) → destination_in p a end ≡ values (record { size = length d; signs = s }) → destination_in d 0 (length d) ≡ values (record { size = length d; signs = s })
  alone s t =
      let f = whole_form p a end (record { size = length d; signs = s }) t in
      form_whole d 0 (length d) (record { size = length d; signs = s }) (grind (arith, common_steps, type_moved, length_moved, key_moved))

  -- and what is found there is a destination by itself, with the same signatures
  pub destination_alone : (s : ℕ) → destination_in p a end ≡ values (record { size = length d; signs = s }) → (signs_of d ≡ s) × (is_destination d ≡ true)
  destination_alone s t = one_whole d (record { size = length d; signs = s }) (alone s t) refl
