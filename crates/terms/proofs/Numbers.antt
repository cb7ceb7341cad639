-- No two refusals share a number, and none has 0: what a promise says by numbers determines the refusal. Assumes nothing.
use Prim.Native.Nat.{ℕ, ◌<◌}
use mathlib.Core.Path.{◌≡◌, refl, sym, ◌∙◌, ap}
use mathlib.Core.Bool.{true}
use mathlib.Core.List.{List, [], ◌∷◌}
use borrow.Author.Tests.{ltb-true}
use lib.Dec.{eqb, ltb}
use Rattle.terms.specs.Ladder.{◌when◌else◌}
use Rattle.terms.specs.Refusals.{number_of}
use Rattle.terms.specs.declared.Refusal.{Refusal}
use Rattle.terms.specs.declared.Refusal.TheVariants as R

table : List Refusal
table =
    R.PacketShort ∷ R.PacketLong ∷ R.OptionCut ∷ R.DestinationForm ∷ R.OfflineAlone ∷
    R.OfflineBlock ∷ R.OutputShort ∷ R.NacksMany ∷ R.PartsUnfit ∷ R.SizeWrong ∷
    R.StateBroken ∷ R.LastNumber ∷ R.BelowNext ∷ R.BeyondSpan ∷ R.AlreadyHeld ∷
    R.PayloadLong ∷ R.NothingThere ∷ R.SlotsFew ∷ R.SubmitLength ∷ R.NumbersSpent ∷
    R.PacketsWait ∷ R.WindowFull ∷ R.AckBeyond ∷ R.ClockWrong ∷ R.TimerEarly ∷
    R.MarkWrong ∷ R.VersionOther ∷ R.KindUnknown ∷ R.RecordCut ∷ R.LengthUnfit ∷
    R.TimeLarge ∷ []

-- the refusal of a number: the first that has it
first_with : ℕ → List Refusal → Refusal
first_with n [] = R.PacketShort
first_with n (r ∷ rs) = r when eqb (number_of r) n else first_with n rs

refusal_of : ℕ → Refusal
refusal_of n = first_with n table

back : (r : Refusal) → (refusal_of (number_of r) ≡ r) × (ltb 0 (number_of r) ≡ true)
unfolding refusal_of first_with table
back R.PacketShort = (refl, refl)
back R.PacketLong = (refl, refl)
back R.OptionCut = (refl, refl)
back R.DestinationForm = (refl, refl)
back R.OfflineAlone = (refl, refl)
back R.OfflineBlock = (refl, refl)
back R.OutputShort = (refl, refl)
back R.NacksMany = (refl, refl)
back R.PartsUnfit = (refl, refl)
back R.SizeWrong = (refl, refl)
back R.StateBroken = (refl, refl)
back R.LastNumber = (refl, refl)
back R.BelowNext = (refl, refl)
back R.BeyondSpan = (refl, refl)
back R.AlreadyHeld = (refl, refl)
back R.PayloadLong = (refl, refl)
back R.NothingThere = (refl, refl)
back R.SlotsFew = (refl, refl)
back R.SubmitLength = (refl, refl)
back R.NumbersSpent = (refl, refl)
back R.PacketsWait = (refl, refl)
back R.WindowFull = (refl, refl)
back R.AckBeyond = (refl, refl)
back R.ClockWrong = (refl, refl)
back R.TimerEarly = (refl, refl)
back R.MarkWrong = (refl, refl)
back R.VersionOther = (refl, refl)
back R.KindUnknown = (refl, refl)
back R.RecordCut = (refl, refl)
back R.LengthUnfit = (refl, refl)
back R.TimeLarge = (refl, refl)

pub number_one : (a b : Refusal) → number_of a ≡ number_of b → a ≡ b
number_one a b e = sym (back a).0 ∙ ap refusal_of e ∙ (back b).0

pub number_some : (r : Refusal) → 0 < number_of r
number_some r = ltb-true 0 (number_of r) (back r).1
