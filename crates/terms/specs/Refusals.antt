-- Document 01's table of refusals, and those of document 02: the number of each.
use Rattle.std.specs.Prelude.{ℕ}
use Rattle.terms.specs.declared.Refusal.{Refusal}
use Rattle.terms.specs.declared.Refusal.TheVariants as R

abbrev pub number_of : Refusal → ℕ
number_of R.PacketShort = 1
number_of R.PacketLong = 2
number_of R.OptionCut = 3
number_of R.DestinationForm = 4
number_of R.OfflineAlone = 5
number_of R.OfflineBlock = 6
number_of R.OutputShort = 7
number_of R.NacksMany = 8
number_of R.PartsUnfit = 9
number_of R.SizeWrong = 10
number_of R.StateBroken = 11
number_of R.LastNumber = 12
number_of R.BelowNext = 13
number_of R.BeyondSpan = 14
number_of R.AlreadyHeld = 15
number_of R.PayloadLong = 16
number_of R.NothingThere = 17
number_of R.SlotsFew = 18
number_of R.SubmitLength = 19
number_of R.NumbersSpent = 20
number_of R.PacketsWait = 21
number_of R.WindowFull = 22
number_of R.AckBeyond = 23
number_of R.ClockWrong = 24
number_of R.TimerEarly = 25
number_of R.MarkWrong = 26
number_of R.VersionOther = 27
number_of R.KindUnknown = 28
number_of R.RecordCut = 29
number_of R.LengthUnfit = 30
number_of R.TimeLarge = 31
