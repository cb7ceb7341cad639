-- A reader that keeps the rules is what its numbers say: reading has not ended. Assumes nothing.
use Prim.Native.Nat.{ℕ, ◌≤◌, ◌<◌}
use mathlib.Core.Path.{◌≡◌}
use mathlib.Core.Bool.{true}
use mathlib.Core.List.{List}
use native.Mathlib.Omega.{arith}
use lib.ListN.{length, take}
use Rattle.std.proofs.lemmas.Grind.{common_steps}
use Rattle.terms.specs.Lists.{◌at_front_of◌}
use Rattle.replay_format.specs.Night.{size_fits}
use Rattle.replay_format.specs.Bytes.{in_data}
use Rattle.replay_reader.specs.Rules.{known_of, numbers_of, data_there, reader_rules}
use Rattle.replay_reader.specs.ReadOn.{Onwards, ◌unless_ended◌by◌}
use Rattle.replay_reader.specs.declared.NightReader.{NightReader}

module _ (r : NightReader) (buffer : List ℕ) (h : reader_rules r ≡ true) where
  -- its numbers are those that say what it knows
  pub ruled : 65538 ≤ length buffer → r ≡ numbers_of (known_of r buffer)
  unfolding reader_rules
  ruled roomy = grind (arith, common_steps)

  -- what is there of a record's data stands at the buffer's front
  pub front : 65538 ≤ length buffer → data_there (known_of r buffer) at_front_of buffer ≡ buffer
  unfolding reader_rules
  front roomy = grind (arith, common_steps)

  pub goes : (on : Onwards) (f : ℕ → Onwards) → (on unless_ended known_of r buffer by f) ≡ on
  unfolding reader_rules
  goes on f = grind (arith, common_steps)

  -- within a record's data
  pub known_data : r.phase ≡ 5 → known_of r buffer ≡ in_data r.kind r.size (take r.there buffer)
  known_data p = grind (arith, common_steps)

  pub data_rules : r.phase ≡ 5 → (size_fits r.kind r.size ≡ true) × (r.size ≤ 65535) × (r.there < r.size)
  unfolding reader_rules
  data_rules p = grind (arith, common_steps)
