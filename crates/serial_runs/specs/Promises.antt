-- What is promised of packets over a serial line.
use Rattle.std.specs.Prelude.{ℕ, ◌+◌, ◌*◌, ◌<◌, ◌≡◌, true, false, List, ◌∷◌, ◌++◌, ◌↔◌, leb, length}
use Rattle.terms.specs.Lists.{all}
use Rattle.wire.specs.BigEndian.{is_byte}
use Rattle.serial_state.specs.Frames.{is_stopped, is_unfit, frames_of, line_of, all_fit_line}
use Rattle.serial_state.specs.Rules.{line_rules}
use Rattle.serial_state.specs.Start.{line_start}
use Rattle.serial_state.specs.declared.LineReader.{LineReader}
use Rattle.serial_runs.specs.Offers.{LeftByCalls, Hearing, hears_from, HostDone}

-- Refusal 11 is exact: the states that keep the rules are those that a start and calls can leave, and no others.
abbrev pub ElevenExactly : Type 0
ElevenExactly = (r : LineReader) → (line_rules r ≡ true) ↔ LeftByCalls r

-- However the line cuts the bytes, portions of nothing too, the packets that the host hears are those of the line, in their order, and it is
-- refused exactly where the line has a length that is.
pub record AsOnTheLine (buffer line : List ℕ) (heard : Hearing) : Type 0 where
  pub packets : heard.packets ≡ (frames_of (length buffer) line).gave
  pub refusal : heard.refused ≡ is_stopped (frames_of (length buffer) line).state

abbrev pub HoweverCut : Type 0
HoweverCut = (buffer line sizes : List ℕ) → all is_byte line ≡ true → HostDone (hears_from buffer line sizes) → AsOnTheLine buffer line (hears_from buffer line sizes)

-- and a host that offers some byte at each call is done after as many calls as the line has bytes
abbrev pub GetsDone : Type 0
GetsDone = (buffer line sizes : List ℕ) → all is_byte line ≡ true → all (leb 1) sizes ≡ true → length line < length sizes → HostDone (hears_from buffer line sizes)

-- An honest line, packets of 22 bytes up to the buffer's length, each behind its length, gives back exactly those packets: none is refused, and the
-- reader is as at its start.
pub record GivenBack (buffer : List ℕ) (packets : List (List ℕ)) (heard : Hearing) : Type 0 where
  pub exactly : heard.packets ≡ packets
  pub none_refused : heard.refused ≡ false
  pub as_started : heard.state ≡ line_start buffer

abbrev pub HonestLine : Type 0
HonestLine = (buffer sizes : List ℕ) (packets : List (List ℕ)) → all_fit_line (length buffer) packets ≡ true → all is_byte (line_of packets) ≡ true
    → HostDone (hears_from buffer (line_of packets) sizes) → GivenBack buffer packets (hears_from buffer (line_of packets) sizes)

-- A length that is refused behind them refuses the host, whatever comes then; the packets before it are heard all the same.
abbrev pub RefusedLength : Type 0
RefusedLength = (buffer sizes : List ℕ) (packets : List (List ℕ)) (high low : ℕ) (rest : List ℕ) → all_fit_line (length buffer) packets ≡ true
    → is_unfit (length buffer) (high * 256 + low) ≡ true → all is_byte (line_of packets ++ high ∷ low ∷ rest) ≡ true
    → HostDone (hears_from buffer (line_of packets ++ high ∷ low ∷ rest) sizes)
    → ((hears_from buffer (line_of packets ++ high ∷ low ∷ rest) sizes).packets ≡ packets) × ((hears_from buffer (line_of packets ++ high ∷ low ∷ rest) sizes).refused ≡ true)
