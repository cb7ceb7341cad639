-- The last number is told first. Assumes nothing.
use mathlib.Core.Path.{◌≡◌}
use mathlib.Core.Bool.{true}
use borrow.Author.Tests.{eq-eqb}
use Rattle.terms.specs.declared.SeqNo.{SeqNo}
use Rattle.receiver_state.specs.Rules.{rules_of, slot_fits}
use Rattle.receiver_state.specs.declared.Receiver.{Receiver}
use Rattle.receiver_why.specs.Reasons.{last_number, why_of}

pub why_last : (r : Receiver) (number : SeqNo) → rules_of r ≡ true → slot_fits r.head.slot ≡ true → number.0 ≡ 4294967295 → last_number ≡ why_of r number
unfolding why_of
why_last r number keeps fits a = simp (keeps, fits, eq-eqb _ _ a)
