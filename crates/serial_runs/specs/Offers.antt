-- Calls of a reader: any that a host may make, and those of a host that offers again what was not used.
use Rattle.std.specs.Prelude.{ℕ, ◌≡◌, Bool, true, false, ◌||◌, List, [], ◌∷◌, ◌++◌, ◌⊎◌, take, drop}
use Rattle.terms.specs.Ladder.{◌and◌}
use Rattle.terms.specs.Lists.{all}
use Rattle.terms.specs.Answers.{Said, refusal, values}
use Rattle.wire.specs.BigEndian.{is_byte}
use Rattle.serial_state.specs.Start.{line_start}
use Rattle.serial_state.specs.declared.LineReader.{LineReader}
use Rattle.serial_feed.specs.Feed.{feed_of}

-- any call: a portion, and whatever buffer is lent with it
pub record Feeding : Type 0 where
  pub portion : List ℕ
  pub buffer : List ℕ

abbrev pub all_bytes : List Feeding → Bool
all_bytes [] = true
all_bytes (call ∷ calls) = all is_byte call.portion and all is_byte call.buffer and all_bytes calls

-- the reader after calls
abbrev pub reader_after : LineReader → List Feeding → LineReader
reader_after r [] = r
reader_after r (call ∷ calls) = reader_after (feed_of r call.portion call.buffer).state calls

-- a state that a start over some buffer and some calls leave
abbrev pub LeftByCalls : LineReader → Type 0
LeftByCalls r = (buffer : List ℕ) × (calls : List Feeding) × (all_bytes calls ≡ true) × (reader_after (line_start buffer) calls ≡ r)

-- A host that lends one buffer, and of the line's bytes that are not yet used offers as many from the front as there happen to be: any number, and
-- none too. What it heard, and what is then left.
pub record Hearing : Type 0 where
  -- each packet, as it stood at the buffer's front
  pub packets : List (List ℕ)
  -- whether some call was refused
  pub refused : Bool
  pub state : LineReader
  pub buffer : List ℕ
  pub unused : List ℕ

abbrev pub packet_at : Said → List ℕ → List (List ℕ)
packet_at (refusal number) buffer = []
packet_at (values []) buffer = []
packet_at (values (size ∷ none)) buffer = take size buffer ∷ []

abbrev pub is_refusal : Said → Bool
is_refusal (refusal number) = true
is_refusal (values given) = false

abbrev pub hears : LineReader → List ℕ → List ℕ → List ℕ → Hearing
hears r buffer line [] = record { packets = []; refused = false; state = r; buffer = buffer; unused = line }
hears r buffer line (size ∷ sizes) =
    let call = feed_of r (take size line) buffer in
    let then = hears call.state call.buffer (drop call.used line) sizes in
    record {
      packets = packet_at call.says call.buffer ++ then.packets;
      refused = is_refusal call.says || then.refused;
      state = then.state;
      buffer = then.buffer;
      unused = then.unused;
    }

-- from a start over this buffer, whatever is in it
abbrev pub hears_from : List ℕ → List ℕ → List ℕ → Hearing
hears_from buffer line sizes = hears (line_start buffer) buffer line sizes

-- the host is done: all bytes are used, or a call was refused
abbrev pub HostDone : Hearing → Type 0
HostDone heard = (heard.unused ≡ []) ⊎ (heard.refused ≡ true)
