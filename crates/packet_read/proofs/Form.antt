-- A destination that is whole has its form and lies inside its area. Assumes nothing.
use Rattle.std.proofs.Common.{ℕ, ◌≡◌, ◌+◌, ◌≤◌, Bool, true, List, eqb, arith}
use Rattle.std.proofs.lemmas.Grind.{common_steps}
use Rattle.terms.specs.Answers.{values}
use Rattle.terms.specs.Ladder.{◌when◌else◌}
use Rattle.packet_keys.specs.Kinds.{signature_length}
use Rattle.packet_read.specs.Destination.{certificate_type, certificate_length, signing_type, form_fits, key_fits, destination_in}
use Rattle.packet_read.specs.Options.{no_destination}
use Rattle.packet_read.specs.declared.Destination.{Destination}

pub record Form (p : List ℕ) (at end : ℕ) (d : Destination) : Type 0 where
  pub form_fits_lem : form_fits (certificate_type p at) (certificate_length p at) ≡ true
  pub fits : at + d.size ≤ end
  pub key_fits_lem : key_fits (signing_type p at) (certificate_length p at) ≡ true
  pub is : d ≡ record { size = 387 + certificate_length p at; signs = signature_length (signing_type p at) }

pub whole_form : (p : List ℕ) (at end : ℕ) (d : Destination) → destination_in p at end ≡ values d → Form p at end d
unfolding destination_in
whole_form p at end d h = grind (arith, common_steps)

pub form_whole : (p : List ℕ) (at end : ℕ) (d : Destination) → Form p at end d → destination_in p at end ≡ values d
unfolding destination_in
form_whole p at end d f = grind (arith, common_steps)

-- with certificate type 5 the key type is there
pub form_long : (c l : ℕ) → form_fits c l ≡ true → eqb c 5 ≡ true → 4 ≤ l
form_long c l h five = grind (arith, common_steps)

-- with the bit clear it is absent, and lies inside its area too
pub size_inside : (p : List ℕ) (at end : ℕ) (d : Destination) (from : Bool) → at ≤ end → (destination_in p at end when from else values no_destination) ≡ values d → at + d.size ≤ end
unfolding destination_in
size_inside p at end d from o h = grind (arith, common_steps)
