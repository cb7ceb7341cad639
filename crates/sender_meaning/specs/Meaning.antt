-- What a sender's state and its store say of each number. The laws of start, submit, send, acks, resend and fetch are told in these words (proofs/).
use Rattle.std.specs.Prelude.{ℕ, ◌<◌, ◌≡◌, Bool, true, false, List, leb, length}
use Rattle.std.proofs.Math.Option.{Option, none, some}
use Rattle.terms.specs.Ladder.{◌when◌else◌}
use Rattle.sender_state.specs.Table.{◌!◌, is_waiting, is_flying, place_of}
use Rattle.sender_state.specs.Rules.{rules, sizes_fit}
use Rattle.sender_state.specs.declared.Sender.{Sender}
use Rattle.sender_state.specs.Numbers.{stored_packet}

pub data Standing : Type 0 where
  -- the next number, or one above it: no packet was made for it
  unmade : Standing
  -- waiting to be sent, as this packet
  waits : List ℕ → Standing
  -- in flight, as this packet, last sent at this time
  flies : List ℕ → ℕ → Standing
  -- acknowledged, or below the first number: the history alone tells these two apart
  gone : Standing

-- the mark of a number's place, and the time at which it was sent; a number that stands nowhere has neither
abbrev pub mark_of : Sender → ℕ → ℕ
mark_of s n = s.marks ! place_of s.numbers n

abbrev pub sent_of : Sender → ℕ → ℕ
sent_of s n = s.sent ! place_of s.numbers n

-- each number has one standing
unfoldable pub standing : Sender → List ℕ → ℕ → Standing
standing s store n =
    unmade when leb s.next.0 n else
    waits (stored_packet s store n) when is_waiting (mark_of s n) else
    flies (stored_packet s store n) (sent_of s n) when is_flying (mark_of s n) else
    gone

-- the packet of a number that waits or flies
abbrev pub packet_in : Standing → Option (List ℕ)
packet_in unmade = none
packet_in (waits packet) = some packet
packet_in (flies packet sent) = some packet
packet_in gone = none

-- does it wait, and does it fly
abbrev pub does_wait : Standing → Bool
does_wait unmade = false
does_wait (waits packet) = true
does_wait (flies packet sent) = false
does_wait gone = false

abbrev pub does_fly : Standing → Bool
does_fly unmade = false
does_fly (waits packet) = false
does_fly (flies packet sent) = true
does_fly gone = false

-- a state and a store that belong together: the table is whole, the rules hold, the sizes fit, and next has its width
pub record Sound (s : Sender) (store : List ℕ) : Type 0 where
  pub numbers_long : length s.numbers ≡ 192
  pub lengths_long : length s.lengths ≡ 192
  pub sent_long : length s.sent ≡ 192
  pub resent_long : length s.resent ≡ 192
  pub marks_long : length s.marks ≡ 192
  pub keeps : rules s ≡ true
  pub fits : sizes_fit s.chunk s.count (length store) ≡ true
  pub width : s.next.0 < 4294967296
