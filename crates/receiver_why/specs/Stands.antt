-- What the answer means: the seven cases, each by itself and with no order among them, and that exactly one of them holds.
use Rattle.std.specs.Prelude.{ℕ, ◌+◌, ◌≤◌, ◌<◌, ◌≡◌, true, false}
use Rattle.terms.specs.declared.SeqNo.{SeqNo}
use Rattle.receiver_state.specs.Slots.{mark_of}
use Rattle.receiver_calls.specs.Meaning.{is_missing}
use Rattle.receiver_state.specs.declared.Receiver.{Receiver}
use Rattle.receiver_why.specs.Reasons.{Case, below_start, was_taken, is_ready, behind_gap, never_came, not_yet_seen, beyond_span, said_case, smallest_missing, why_of}

-- held: from next to highest, and its slot is not free
pub record IsHeld (r : Receiver) (n : ℕ) : Type 0 where
  pub new : r.head.next.0 ≤ n
  pub seen : n ≤ r.head.highest.0
  pub full : 1 ≤ mark_of r.marks n

abbrev pub Holds : Receiver → ℕ → Case → Type 0
-- at or below the start
Holds r n below_start = n ≤ r.head.start.0
-- taken
Holds r n was_taken = (r.head.start.0 < n) × (n < r.head.next.0)
-- held with nothing missing below it
Holds r n is_ready = IsHeld r n × ((m : ℕ) → m < n → is_missing r m ≡ false)
-- held behind a gap
Holds r n behind_gap = IsHeld r n × ((m : ℕ) × (m < n) × (is_missing r m ≡ true))
Holds r n never_came = is_missing r n ≡ true
-- above highest but less than 512 from the next to take
Holds r n not_yet_seen = (r.head.highest.0 < n) × (n < r.head.next.0 + 512)
Holds r n beyond_span = r.head.next.0 + 512 ≤ n

-- of the seven exactly one holds, and it is the one that is given; where a gap is told, the number named is the smallest missing one
pub record ExactlyOneCase (r : Receiver) (number : SeqNo) : Type 0 where
  pub the : Case
  pub holds : Holds r number.0 the
  pub only : (c : Case) → Holds r number.0 c → the ≡ c
  pub told : why_of r number ≡ said_case r the
  pub smallest : the ≡ behind_gap → (is_missing r (smallest_missing r) ≡ true) × ((m : ℕ) → m < smallest_missing r → is_missing r m ≡ false)
