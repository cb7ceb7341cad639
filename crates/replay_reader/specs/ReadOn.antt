-- What read_on does, whatever it is given: its answer, how many bytes of the portion it used, and what it leaves of the reader and of the buffer.
use Rattle.std.specs.Prelude.{ℕ, not, List, [], ◌∷◌, ltb, length, Result, Option, Some, None}
use Rattle.terms.specs.declared.Refusal.{Refusal}
use Rattle.terms.specs.Ladder.{◌when◌else◌}
use Rattle.terms.specs.Lists.{◌at_front_of◌}
use Rattle.terms.specs.Answers.{Said, refusal, values, told}
use Rattle.portions.specs.Stops.{OneCall, until_given}
use Rattle.replay_format.specs.Night.{Record}
use Rattle.replay_format.specs.Bytes.{Known, in_head, before_record, at_length, in_length, in_data, ended, read_night_byte}
use Rattle.replay_reader.specs.Rules.{known_of, numbers_of, data_there, reader_rules}
use Rattle.replay_reader.specs.declared.NightReader.{NightReader}
use Rattle.replay_reader.specs.declared.Onward.{Onward}
use Rattle.replay_reader.specs.declared.Record as C

-- what a record is told by, where there is one: its kind and its length
abbrev pub met_listed : Option C.Record → List ℕ
met_listed (Some one) = one.kind ∷ one.size ∷ []
met_listed None = []

-- the number of a refusal; else the kind and the length of the record whose data stands at the buffer's front, or nothing where more is wanted
abbrev pub said_met : Result (Option C.Record) Refusal → Said
said_met answer = told met_listed answer

pub record Onwards : Type 0 where
  pub says : Said
  pub used : ℕ
  pub reader : NightReader
  pub buffer : List ℕ

-- a refused call uses nothing, and leaves reader and buffer
abbrev pub turned_back : ℕ → NightReader → List ℕ → Onwards
turned_back number r buffer = record { says = refusal number; used = 0; reader = r; buffer = buffer }

-- what a call answers that met a record, or none
abbrev pub record_said : List Record → Said
record_said (one ∷ none) = values (one.kind ∷ length one.bytes ∷ [])
record_said [] = values []

-- what it leaves at the buffer's front: the record's data, or what is there of it
abbrev pub data_in : List Record → Known → List ℕ
data_in (one ∷ none) known = one.bytes
data_in [] known = data_there known

infixl 20 ◌unless_ended◌by◌
-- a reading that goes on, or the refusal that ended it
abbrev pub ◌unless_ended◌by◌ : {A : Type 0} → A → Known → (ℕ → A) → A
on unless_ended in_head there by f = on
on unless_ended before_record is_first by f = on
on unless_ended at_length kind by f = on
on unless_ended in_length kind high by f = on
on unless_ended in_data kind size there by f = on
on unless_ended ended why by f = f why

-- a call that read up to the first complete record, or to the portion's end
unfoldable pub onward_by : NightReader → List ℕ → OneCall Known Record → Onwards
onward_by r buffer reading =
    record {
      says = record_said reading.gave;
      used = reading.used;
      reader = numbers_of reading.state;
      buffer = data_in reading.gave reading.state at_front_of buffer;
    } unless_ended reading.state by (λ why. turned_back why r buffer)

-- the whole outcome, the refusals in document 02's order
unfoldable pub read_on_of : NightReader → List ℕ → List ℕ → Onwards
read_on_of r portion buffer =
    -- state breaks the rules
    turned_back 11 r buffer when not (reader_rules r) else
    -- a buffer too short for any record
    turned_back 10 r buffer when ltb (length buffer) 65538 else
    -- and else what the bytes say, 26 to 29 among it
    onward_by r buffer (until_given read_night_byte (known_of r buffer) portion)

-- results of the code, as an outcome
abbrev pub onward : Onward → List ℕ → Onwards
onward o buffer = record { says = said_met o.answer; used = o.used; reader = o.reader; buffer = buffer }
