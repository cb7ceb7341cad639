-- A host that lends one buffer, and of the file's bytes that are not yet used offers as many from the front as there happen to be: any number, and none too. A
-- refused call ends it.
use Rattle.std.specs.Prelude.{ℕ, ◌≡◌, List, [], ◌∷◌, ◌++◌, ◌⊎◌, take, drop}
use Rattle.terms.specs.Answers.{Said, refusal, values, ◌unless_refused◌else◌}
use Rattle.replay_format.specs.Night.{Record, Night}
use Rattle.replay_reader.specs.Rules.{night_start}
use Rattle.replay_reader.specs.ReadOn.{read_on_of}
use Rattle.replay_reader.specs.Finish.{finish_of}
use Rattle.replay_reader.specs.declared.NightReader.{NightReader}

pub record PiecesRead : Type 0 where
  -- each record, its data as it stood at the buffer's front
  pub records : List Record
  -- the refusal that ended it, or none
  pub refused : Said
  pub reader : NightReader
  pub buffer : List ℕ
  pub unused : List ℕ

-- the record that a call answered, if any
abbrev pub record_met : Said → List ℕ → List Record
record_met (refusal number) buffer = []
record_met (values []) buffer = []
record_met (values (kind ∷ [])) buffer = []
record_met (values (kind ∷ size ∷ none)) buffer = record { kind = kind; bytes = take size buffer } ∷ []

abbrev pub pieces_read : NightReader → List ℕ → List ℕ → List ℕ → PiecesRead
pieces_read r buffer file [] = record { records = []; refused = values []; reader = r; buffer = buffer; unused = file }
pieces_read r buffer file (size ∷ sizes) =
    let call = read_on_of r (take size file) buffer in
    let then = pieces_read call.reader call.buffer (drop call.used file) sizes in
    record {
      records = record_met call.says call.buffer ++ then.records;
      refused = then.refused;
      reader = then.reader;
      buffer = then.buffer;
      unused = then.unused;
    } unless_refused call.says else
    record { records = []; refused = call.says; reader = r; buffer = buffer; unused = file }

-- from the file's start, over this buffer, whatever is in it
abbrev pub pieces_of : List ℕ → List ℕ → List ℕ → PiecesRead
pieces_of buffer file sizes = pieces_read night_start buffer file sizes

-- the host is done: all bytes are used, or a call was refused
abbrev pub PiecesDone : PiecesRead → Type 0
PiecesDone p = (p.unused ≡ []) ⊎ ((number : ℕ) × (p.refused ≡ refusal number))

-- what it then knows of the night: the records, and the refusal, or else what the end of the file says
abbrev pub night_pieced : PiecesRead → Night
night_pieced p = record { records = p.records; ends = finish_of p.reader unless_refused p.refused else p.refused }
