-- Any two results that the promise allows are equal. Assumes nothing.
use Prim.Native.Nat.{ℕ}
use mathlib.Core.Path.{◌≡◌, refl, sym, ◌∙◌, ap}
use mathlib.Core.List.{List}
use lib.Dec.{eqb}
use lib.ListN.{get_or}
use Rattle.std.specs.Prelude.{Result}
use Rattle.terms.specs.declared.SeqNo.{SeqNo}
use Rattle.terms.specs.declared.Refusal.{Refusal}
use Rattle.terms.specs.Ladder.{◌when◌else◌}
use Rattle.terms.proofs.Determined.{determined, told_one}
use Rattle.receiver_state.specs.declared.Receiver.{Receiver}
use Rattle.receiver_why.specs.Reasons.{reason_said, said_why, why_of}
use Rattle.receiver_why.specs.declared.Reason.{Reason}
use Rattle.receiver_why.specs.declared.Reason.TheVariants as W

-- the reason that these numbers tell
abbrev reason_at : ℕ → ℕ → Reason
reason_at k m =
    W.LastNumber when eqb k 1 else
    W.AtOrBelowStart when eqb k 2 else
    W.Taken when eqb k 3 else
    W.Ready when eqb k 4 else
    W.BehindGap (record { 0 = m }) when eqb k 5 else
    W.Missing when eqb k 6 else
    W.NotYetSeen when eqb k 7 else
    W.BeyondSpan

abbrev reason_by : List ℕ → Reason
reason_by l = reason_at (get_or l 0 0) (get_or l 1 0)

back : (w : Reason) → reason_by (reason_said w) ≡ w
back W.LastNumber = refl
back W.AtOrBelowStart = refl
back W.Taken = refl
back W.Ready = refl
back (W.BehindGap m) = refl
back W.Missing = refl
back W.NotYetSeen = refl
back W.BeyondSpan = refl

pub reason_one : (a b : Reason) → reason_said a ≡ reason_said b → a ≡ b
reason_one a b e = sym (back a) ∙ ap reason_by e ∙ back b

pub why_determined : (r : Receiver) (n : SeqNo) (a b : Result Reason Refusal) → said_why a ≡ why_of r n → said_why b ≡ why_of r n → a ≡ b
why_determined r n a b p q = told_one reason_said reason_one a b (determined p q)
