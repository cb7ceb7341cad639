-- Any two results that a promise allows are equal. Assumes nothing.
use Prim.Native.Nat.{ℕ}
use mathlib.Core.Path.{◌≡◌}
use mathlib.Core.Bool.{Bool}
use mathlib.Core.List.{List}
use Rattle.terms.proofs.Determined.{determined}
use Rattle.serial_state.specs.Rules.{line_rules}
use Rattle.serial_state.specs.Start.{line_start}
use Rattle.serial_state.specs.declared.LineReader.{LineReader}

pub start_determined : (buffer : List ℕ) (a b : LineReader) → a ≡ line_start buffer → b ≡ line_start buffer → a ≡ b
start_determined buffer a b p q = determined p q

pub keeps_rules_determined : (r : LineReader) (a b : Bool) → a ≡ line_rules r → b ≡ line_rules r → a ≡ b
keeps_rules_determined r a b p q = determined p q
