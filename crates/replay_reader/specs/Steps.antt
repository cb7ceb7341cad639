-- What the code's own functions promise: one byte outside a record's data, and a call of which a refusal is an error. No promise of a call that a host makes
-- needs this page.
use Rattle.std.specs.Prelude.{ℕ, ◌≡◌, Bool, true, List, [], Result, Ok, Err}
use Rattle.terms.specs.Refusals.{number_of}
use Rattle.terms.specs.Answers.{values}
use Rattle.terms.specs.declared.Refusal.{Refusal}
use Rattle.portions.specs.Fold.{Left, quiet}
use Rattle.replay_format.specs.Night.{Record}
use Rattle.replay_format.specs.Bytes.{Known, ended, completes}
use Rattle.replay_reader.specs.Rules.{known_of, reader_rules}
use Rattle.replay_reader.specs.ReadOn.{Onwards, turned_back, met_listed}
use Rattle.replay_reader.specs.declared.NightReader.{NightReader}
use Rattle.replay_reader.specs.declared.Reading.{Reading}
use Rattle.replay_reader.specs.declared.Step.{Step}
use Rattle.replay_reader.specs.declared.Step.TheVariants as S

-- what a byte leaves, over any buffer
abbrev pub stepped_to : Result Step Refusal → List ℕ → Left Known Record
stepped_to (Ok (S.Next r)) buffer = quiet (known_of r buffer)
stepped_to (Ok (S.Complete kind)) buffer = completes kind []
stepped_to (Err why) buffer = quiet (ended (number_of why))

abbrev pub stepped_keeps : Result Step Refusal → Bool
stepped_keeps (Ok (S.Next r)) = reader_rules r
stepped_keeps (Ok (S.Complete kind)) = true
stepped_keeps (Err why) = true

pub record StepsTo (s : Result Step Refusal) (left : List ℕ → Left Known Record) : Type 0 where
  pub to : (buffer : List ℕ) → stepped_to s buffer ≡ left buffer
  pub keeps : stepped_keeps s ≡ true

-- what a call leaves: a refused one the reader that it was given
abbrev pub read_so : NightReader → Result Reading Refusal → List ℕ → Onwards
read_so whole (Ok reading) buffer = record { says = values (met_listed reading.met); used = reading.used; reader = reading.reader; buffer = buffer }
read_so whole (Err why) buffer = turned_back (number_of why) whole buffer
