-- The sender and the receiver that a call gives in its numbers (`program_script::asked`).
use Rattle.std.specs.Prelude.{ℕ, ◌+◌, ◌%◌, ◌≡◌, List, eqb, set, Option, Some, None}
use Rattle.terms.specs.Ladder.{◌when◌else◌}
use Rattle.timer.specs.declared.Sampled.{Sampled}
use Rattle.program_script.specs.Numbers.{number_in}
use Rattle.sender_state.specs.Places.{state_of}
use Rattle.sender_state.specs.declared.Place.{Place}
use Rattle.sender_state.specs.declared.Sender.{Sender}
use Rattle.receiver_state.specs.declared.Head.{Head}
use Rattle.receiver_state.specs.declared.Receiver.{Receiver}
use Rattle.drive_state.specs.declared.Registers.{Registers}

-- the timing that stands from a number on: whether it is sampled, and its two times
abbrev pub timing_in : List ℕ → ℕ → Option Sampled
timing_in asked at =
    None when eqb (number_in asked at) 0 else
    Some (record { rtt = number_in asked (at + 1) % 4294967296; deviation = number_in asked (at + 2) % 4294967296 })

abbrev pub timer_in : List ℕ → Option ℕ
timer_in asked = None when eqb (number_in asked 7) 0 else Some (number_in asked 8)

-- its ten numbers are the call's, and its places those that stand there
pub record SenderIn (asked : List ℕ) (there s : Sender) : Type 0 where
  pub chunk : s.chunk ≡ number_in asked 0 % 4294967296
  pub count : s.count ≡ number_in asked 1 % 4294967296
  pub next : s.next.0 ≡ number_in asked 2 % 4294967296
  pub window : s.window ≡ number_in asked 3 % 4294967296
  pub timing : s.timing ≡ timing_in asked 4
  pub timer : s.timer ≡ timer_in asked
  pub clock : s.clock ≡ number_in asked 9
  pub numbers : s.numbers ≡ there.numbers
  pub lengths : s.lengths ≡ there.lengths
  pub sent : s.sent ≡ there.sent
  pub marks : s.marks ≡ there.marks
  pub resent : s.resent ≡ there.resent

pub record HeadIn (asked : List ℕ) (h : Head) : Type 0 where
  pub slot : h.slot ≡ number_in asked 0 % 4294967296
  pub start : h.start.0 ≡ number_in asked 1 % 4294967296
  pub next : h.next.0 ≡ number_in asked 2 % 4294967296
  pub highest : h.highest.0 ≡ number_in asked 3 % 4294967296

-- the sender with a place that holds what is given; its other places and its numbers stay
abbrev pub with_place : Sender → ℕ → Place → Sender
with_place s at p = state_of s.chunk s.count s.next.0 s.window s.timing s.timer s.clock (record {
  numbers = set s.numbers at p.number.0;
  lengths = set s.lengths at p.size;
  sent = set s.sent at p.sent;
  resent = set s.resent at p.resent;
  marks = set s.marks at p.mark;
})

-- the receiver with a mark in a slot; its other slots and its numbers stay
abbrev pub with_mark : Receiver → ℕ → ℕ → Receiver
with_mark r at mark = record { head = r.head; marks = set r.marks at mark }

-- at first nothing is stored
pub record Blank (r : Registers) : Type 0 where
  pub received : r.received.length ≡ 0
  pub sent : r.sent.length ≡ 0
  pub line : r.line.length ≡ 0
