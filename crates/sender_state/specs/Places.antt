-- The table of a state: its places, list by list, and the ways in which a call changes it. A list that a way does not name stays, so a field of a place is
-- one line here beside its rule and the calls that set it.
use Rattle.std.specs.Prelude.{ℕ, Bool, List, set, replicate, Option}
use Rattle.timer.specs.declared.Sampled.{Sampled}
use Rattle.sender_state.specs.Table.{◌!◌, replaced}
use Rattle.sender_state.specs.declared.Place.{Place}
use Rattle.sender_state.specs.declared.Sender.{Sender}

-- of each place the number, the length and the send time of its packet, whether that was sent more than once, and the mark
pub record Places : Type 0 where
  pub numbers : List ℕ
  pub lengths : List ℕ
  pub sent : List ℕ
  pub resent : List ℕ
  pub marks : List ℕ

abbrev pub places_of : Sender → Places
places_of s = record { numbers = s.numbers; lengths = s.lengths; sent = s.sent; resent = s.resent; marks = s.marks }

-- one place
abbrev pub place_in : Places → ℕ → Place
place_in p i = record { number = record { 0 = p.numbers ! i }; size = p.lengths ! i; sent = p.sent ! i; resent = p.resent ! i; mark = p.marks ! i }

-- every place free
abbrev pub all_free : Places
all_free = record { numbers = replicate 192 0; lengths = replicate 192 0; sent = replicate 192 0; resent = replicate 192 0; marks = replicate 192 0 }

-- a packet so long waits in a free place, under a number
abbrev pub joining : Places → ℕ → ℕ → ℕ → Places
joining p place number size = record {
  numbers = set p.numbers place number;
  lengths = set p.lengths place size;
  sent = p.sent;
  resent = p.resent;
  marks = set p.marks place 1;
}

-- the packet of a place is in flight since the clock
abbrev pub departing : Places → ℕ → ℕ → Places
departing p place clock = record {
  numbers = p.numbers;
  lengths = p.lengths;
  sent = set p.sent place clock;
  resent = p.resent;
  marks = set p.marks place 2;
}

-- the packets of the places that pass are sent again, at the clock
abbrev pub stamping : Places → (ℕ → Bool) → ℕ → Places
stamping p again clock = record {
  numbers = p.numbers;
  lengths = p.lengths;
  sent = replaced clock again 0 p.sent;
  resent = replaced 1 again 0 p.resent;
  marks = p.marks;
}

-- the places that pass are free: every field 0
abbrev pub freeing : Places → (ℕ → Bool) → Places
freeing p gone = record {
  numbers = replaced 0 gone 0 p.numbers;
  lengths = replaced 0 gone 0 p.lengths;
  sent = replaced 0 gone 0 p.sent;
  resent = replaced 0 gone 0 p.resent;
  marks = replaced 0 gone 0 p.marks;
}

-- a state from its numbers and its places
abbrev pub state_of : ℕ → ℕ → ℕ → ℕ → Option Sampled → Option ℕ → ℕ → Places → Sender
state_of chunk count next window timing timer clock p = record {
  chunk = chunk;
  count = count;
  next = record { 0 = next };
  window = window;
  timing = timing;
  timer = timer;
  clock = clock;
  numbers = p.numbers;
  lengths = p.lengths;
  sent = p.sent;
  resent = p.resent;
  marks = p.marks;
}

-- the place of a state at an index
abbrev pub place_at : Sender → ℕ → Place
place_at s i = place_in (places_of s) i
