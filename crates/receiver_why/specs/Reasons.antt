-- Why a piece is not delivered: document 02, request [6]. Of any receiver and any number, one of eight answers.
use Rattle.std.specs.Prelude.{ℕ, zero, suc, ◌+◌, ◌-◌, not, List, [], ◌∷◌, leb, ltb, eqb, Result}
use Rattle.terms.specs.declared.SeqNo.{SeqNo}
use Rattle.terms.specs.Ladder.{◌when◌else◌}
use Rattle.terms.specs.declared.Refusal.{Refusal}
use Rattle.terms.specs.Answers.{Said, refusal, values, told}
use Rattle.receiver_state.specs.Slots.{is_free, mark_of}
use Rattle.receiver_state.specs.Rules.{rules_of, slot_fits}
use Rattle.receiver_state.specs.declared.Receiver.{Receiver}
use Rattle.receiver_why.specs.declared.Reason.{Reason}
use Rattle.receiver_why.specs.declared.Reason.TheVariants as W

-- the first of so many numbers, from first on, that is not held; the one behind them where all are
unfoldable pub first_missing : List ℕ → ℕ → ℕ → ℕ
first_missing marks first zero = first
first_missing marks first (suc more) = first when is_free (mark_of marks first) else first_missing marks (suc first) more

-- the smallest missing number of a receiver; one above highest where nothing is missing
abbrev pub smallest_missing : Receiver → ℕ
smallest_missing r = first_missing r.marks r.head.next.0 (r.head.highest.0 + 1 - r.head.next.0)

-- the seven that are left where the number can be used
pub data Case : Type 0 where
  -- at or below the start
  below_start : Case
  was_taken : Case
  -- held with nothing missing below it
  is_ready : Case
  -- held behind a gap
  behind_gap : Case
  -- missing: never accepted, and not above highest
  never_came : Case
  -- above highest but less than 512 from the next to take
  not_yet_seen : Case
  beyond_span : Case

-- which of them it is
unfoldable pub case_of : Receiver → ℕ → Case
case_of r n =
    below_start when leb n r.head.start.0 else
    was_taken when ltb n r.head.next.0 else
    beyond_span when leb 512 (n - r.head.next.0) else
    not_yet_seen when ltb r.head.highest.0 n else
    never_came when is_free (mark_of r.marks n) else
    behind_gap when ltb (smallest_missing r) n else
    is_ready

-- a case in numbers: 1 is the unusable last number, 2 to 8 are the seven; one that is held behind a gap names the smallest missing number
abbrev pub last_number : Said
last_number = values (1 ∷ [])

abbrev pub said_case : Receiver → Case → Said
said_case r below_start = values (2 ∷ [])
said_case r was_taken = values (3 ∷ [])
said_case r is_ready = values (4 ∷ [])
said_case r behind_gap = values (5 ∷ smallest_missing r ∷ [])
said_case r never_came = values (6 ∷ [])
said_case r not_yet_seen = values (7 ∷ [])
said_case r beyond_span = values (8 ∷ [])

-- the answer; the last number is tested first
unfoldable pub why_of : Receiver → SeqNo → Said
why_of r number =
    -- state breaks the rules
    refusal 11 when not (rules_of r) else
    -- slot size wrong; no store is lent
    refusal 10 when not (slot_fits r.head.slot) else
    -- the unusable last number
    last_number when eqb number.0 4294967295 else
    said_case r (case_of r number.0)

-- a reason of the code in these numbers
abbrev pub reason_said : Reason → List ℕ
reason_said W.LastNumber = 1 ∷ []
reason_said W.AtOrBelowStart = 2 ∷ []
reason_said W.Taken = 3 ∷ []
reason_said W.Ready = 4 ∷ []
reason_said (W.BehindGap smallest) = 5 ∷ smallest.0 ∷ []
reason_said W.Missing = 6 ∷ []
reason_said W.NotYetSeen = 7 ∷ []
reason_said W.BeyondSpan = 8 ∷ []

-- an answer of the code, in these terms
abbrev pub said_why : Result Reason Refusal → Said
said_why answer = told reason_said answer
