-- What feed does, whatever it is given: its answer, how many bytes of the portion it used, and what it leaves of the reader and of the buffer.
use Rattle.std.specs.Prelude.{ℕ, not, List, [], ◌∷◌, eqb, length, Result, Option, Some, None}
use Rattle.terms.specs.declared.Refusal.{Refusal}
use Rattle.terms.specs.Ladder.{◌when◌else◌}
use Rattle.terms.specs.Lists.{◌at_front_of◌}
use Rattle.terms.specs.Answers.{Said, refusal, values, told}
use Rattle.portions.specs.Stops.{OneCall, until_given}
use Rattle.serial_state.specs.Frames.{Coming, stopped, is_stopped, read_byte}
use Rattle.serial_state.specs.Rules.{coming_of, reader_of, there_in, line_rules}
use Rattle.serial_state.specs.declared.LineReader.{LineReader}
use Rattle.serial_feed.specs.declared.Fed.{Fed}

-- a number, where there is one
abbrev pub listed : Option ℕ → List ℕ
listed (Some number) = number ∷ []
listed None = []

-- the number of a refusal; else the length of the packet at the buffer's front, or nothing where more is wanted
abbrev pub heard_said : Result (Option ℕ) Refusal → Said
heard_said answer = told listed answer

pub record Feeds : Type 0 where
  pub says : Said
  pub used : ℕ
  pub state : LineReader
  pub buffer : List ℕ

-- a refused call uses nothing, and leaves the buffer
abbrev pub turned_away : ℕ → LineReader → List ℕ → Feeds
turned_away number r buffer = record { says = refusal number; used = 0; state = r; buffer = buffer }

-- what a call answers that gave out a packet, or none
abbrev pub length_in : List (List ℕ) → List ℕ
length_in (packet ∷ none) = length packet ∷ []
length_in [] = []

-- what it leaves at the buffer's front: the packet, or what is there of one
abbrev pub front_in : List (List ℕ) → Coming → List ℕ
front_in (packet ∷ none) coming = packet
front_in [] coming = there_in coming

-- A call that read up to the first full packet, or to the portion's end. A length that is refused stops the reader: no byte is used, and nothing is
-- kept of that length.
unfoldable pub heard_by : ℕ → List ℕ → OneCall Coming (List ℕ) → Feeds
heard_by room buffer reading =
    turned_away 30 (reader_of room stopped) buffer when is_stopped reading.state else
    record {
      says = values (length_in reading.gave);
      used = reading.used;
      state = reader_of room reading.state;
      buffer = front_in reading.gave reading.state at_front_of buffer;
    }

-- the whole outcome, the refusals in document 02's order
unfoldable pub feed_of : LineReader → List ℕ → List ℕ → Feeds
feed_of r portion buffer =
    -- a state that no start and calls could leave
    turned_away 11 r buffer when not (line_rules r) else
    -- a buffer of another length than at the start
    turned_away 10 r buffer when not (eqb (length buffer) r.room) else
    -- and else what the bytes say, 30 among it
    heard_by r.room buffer (until_given (read_byte r.room) (coming_of r buffer) portion)

-- results of the code, as an outcome
abbrev pub fed : Fed → List ℕ → Feeds
fed f buffer = record { says = heard_said f.answer; used = f.used; state = f.state; buffer = buffer }
