-- What is promised of every run of a sender: its state stays one that the rules allow, and of what was submitted nothing is forgotten but what
-- acks named after it was sent.
use Rattle.std.specs.Prelude.{ℕ, ◌+◌, ◌-◌, ◌≤◌, ◌<◌, ◌≡◌, Bool, true, false, ◌&&◌, ◌||◌, not, List, [], ◌∷◌, leb, ltb, eqb, length, get_or}
use Rattle.std.proofs.Math.Option.{Option, none, some, or_else}
use Rattle.terms.specs.Ladder.{◌when◌else◌}
use Rattle.terms.specs.Answers.{Said, refusal, values}
use Rattle.receiver_state.specs.Rules.{rules_of, slot_fits}
use Rattle.receiver_state.specs.declared.Receiver.{Receiver}
use Rattle.sender_state.specs.Table.{◌unless◌}
use Rattle.sender_submit.specs.Chunks.{data_packet}
use Rattle.sender_meaning.specs.Meaning.{Standing, unmade, waits, gone, packet_in, does_fly, standing, Sound}
use Rattle.sender_meaning.specs.Steps.{is_fair, is_named, chunk_at}
use Rattle.sender_runs.specs.Runs.{Call, submit, send, acks, resend, fetch, Event, Run, history_of, end_of}

-- a receiver that keeps its rules, with a slot size in range
abbrev pub is_usable : Receiver → Bool
is_usable r = rules_of r && slot_fits r.head.slot

-- not refused for the sender's rules or sizes; a submit may be for those of the receiver that it is given
abbrev pub fair_to : Call → Said → Bool
fair_to (submit r to from bytes) says = is_fair says unless not (is_usable r)
fair_to (send clock output) says = is_fair says
fair_to (acks through nacks clock) says = is_fair says
fair_to (resend clock path) says = is_fair says
fair_to (fetch rank output) says = is_fair says

abbrev pub all_fair : List Event → Bool
all_fair [] = true
all_fair (e ∷ rest) = fair_to e.asked e.answered && all_fair rest

-- the packet that a submit made under a number: of the chunk in its place of the row
abbrev pub made_by : ℕ → ℕ → Call → ℕ → Said → Option (List ℕ)
made_by chunk n (submit r to from bytes) next (values given) =
    some (data_packet r to from n (chunk_at chunk (n - next) bytes)) when leb next n && ltb n (next + get_or given 0 0) else none
made_by chunk n (submit r to from bytes) next (refusal why) = none
made_by chunk n (send clock output) next says = none
made_by chunk n (acks through nacks clock) next says = none
made_by chunk n (resend clock path) next says = none
made_by chunk n (fetch rank output) next says = none

abbrev pub made_in : ℕ → ℕ → List Event → Option (List ℕ)
made_in chunk n [] = none
made_in chunk n (e ∷ rest) = or_else (made_by chunk n e.asked e.next e.answered) (made_in chunk n rest)

-- a send that was done told a number
abbrev pub sent_by : ℕ → Call → Said → Bool
sent_by n (send clock output) (values given) = eqb n (get_or given 0 0)
sent_by n (send clock output) (refusal why) = false
sent_by n (submit r to from bytes) says = false
sent_by n (acks through nacks clock) says = false
sent_by n (resend clock path) says = false
sent_by n (fetch rank output) says = false

abbrev pub sent_in : ℕ → List Event → Bool
sent_in n [] = false
sent_in n (e ∷ rest) = sent_by n e.asked e.answered || sent_in n rest

-- acks that were done named a number
abbrev pub named_by : ℕ → Call → Said → Bool
named_by n (acks through nacks clock) (values given) = is_named through nacks n
named_by n (acks through nacks clock) (refusal why) = false
named_by n (submit r to from bytes) says = false
named_by n (send clock output) says = false
named_by n (resend clock path) says = false
named_by n (fetch rank output) says = false

abbrev pub named_in : ℕ → List Event → Bool
named_in n [] = false
named_in n (e ∷ rest) = named_by n e.asked e.answered || named_in n rest

-- a send told it, and acks that came later named it; acks that came before do not count
abbrev pub acked_in : ℕ → List Event → Bool
acked_in n [] = false
acked_in n (e ∷ rest) = named_in n rest when sent_by n e.asked e.answered else acked_in n rest

-- the packet made under a number in a run, and the number's standing at its end
abbrev pub made : Run → ℕ → Option (List ℕ)
made run n = made_in run.chunk n (history_of run)

abbrev pub standing_of : Run → ℕ → Standing
standing_of run n = standing (end_of run).state (end_of run).store n

pub record Remembers (run : Run) : Type 0 where
  -- the state and the store at the end belong together, and the sizes are those of the start
  pub sound : Sound (end_of run).state (end_of run).store
  pub store_length : length (end_of run).store ≡ length run.store
  pub chunk_is : (end_of run).state.chunk ≡ run.chunk
  pub count_is : (end_of run).state.count ≡ run.count
  -- no call was refused with 11 or with 10 for the sender
  pub never_11_or_10 : all_fair (history_of run) ≡ true
  -- the numbers that were made are those from the first one up to next
  pub made_range : (n : ℕ) (packet : List ℕ) → made run n ≡ some packet → (run.first.0 ≤ n) × (n < (end_of run).state.next.0)
  pub unmade_is : (n : ℕ) → run.first.0 ≤ n → made run n ≡ none → standing_of run n ≡ unmade
  -- what was made waits as it was made until a send tells it,
  pub waits_until_sent : (n : ℕ) (packet : List ℕ) → made run n ≡ some packet → sent_in n (history_of run) ≡ false → standing_of run n ≡ waits packet
  -- then flies as it was made until acks that come later name it,
  pub flies_until_acked : (n : ℕ) (packet : List ℕ) → made run n ≡ some packet → sent_in n (history_of run) ≡ true → acked_in n (history_of run) ≡ false
      → (packet_in (standing_of run n) ≡ some packet) × (does_fly (standing_of run n) ≡ true)
  -- and then is gone
  pub gone_when_acked : (n : ℕ) (packet : List ℕ) → made run n ≡ some packet → acked_in n (history_of run) ≡ true → standing_of run n ≡ gone
  -- and what waits or flies was made so
  pub as_made : (n : ℕ) (packet : List ℕ) → packet_in (standing_of run n) ≡ some packet → made run n ≡ some packet
  -- a send tells no number that was not made
  pub sent_made : (n : ℕ) → made run n ≡ none → sent_in n (history_of run) ≡ false
  pub below_first : (n : ℕ) → n < run.first.0 → standing_of run n ≡ gone
