-- Each promise of `packet_write` allows one result only: the answer and every byte of the output. Assumes nothing.
use Prim.Native.Nat.{ℕ}
use mathlib.Core.Path.{◌≡◌}
use mathlib.Core.List.{List}
use lib.ListN.{length}
use Rattle.std.specs.Prelude.{Result}
use Rattle.terms.specs.Answers.{saying}
use Rattle.terms.specs.declared.Refusal.{Refusal}
use Rattle.terms.proofs.Determined.{determined, saying_one}
use Rattle.packet_write.specs.Writing.{write_of, output_after}
use Rattle.packet_write.specs.declared.Fields.{Fields}
use Rattle.packet_write.specs.declared.Written.{Written}

pub judge_determined : (f : Fields) (nacks destination signature payload : List ℕ) (room : ℕ) (a b : Result Written Refusal)
    → saying a ≡ write_of f nacks destination signature payload room → saying b ≡ write_of f nacks destination signature payload room → a ≡ b
judge_determined f nacks destination signature payload room a b p q = saying_one a b (determined p q)

module _ (f : Fields) (nacks destination signature payload output : List ℕ) where
  pub write_determined : (a b : Result Written Refusal) (x y : List ℕ)
      → saying a ≡ write_of f nacks destination signature payload (length output) → x ≡ output_after f nacks destination signature payload output
      → saying b ≡ write_of f nacks destination signature payload (length output) → y ≡ output_after f nacks destination signature payload output
      → (a ≡ b) × (x ≡ y)
  write_determined a b x y p q r s = (saying_one a b (determined p r), determined q s)
