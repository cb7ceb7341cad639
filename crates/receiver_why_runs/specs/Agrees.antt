-- What why says at the end of any run agrees with what was asked and answered on the way: document 02, request [6].
use Rattle.std.specs.Prelude.{ℕ, ◌+◌, ◌≤◌, ◌<◌, ◌≡◌, ◌⊎◌, ◌↔◌, length}
use Rattle.terms.specs.declared.SeqNo.{SeqNo}
use Rattle.terms.specs.Answers.{Said}
use Rattle.receiver_why.specs.Reasons.{Case, below_start, was_taken, is_ready, behind_gap, never_came, not_yet_seen, beyond_span, last_number, said_case, why_of}
use Rattle.receiver_runs.specs.Runs.{Run, history_of, end_of}
use Rattle.receiver_runs.specs.History.{taken_in}
use Rattle.receiver_runs.specs.Delivered.{NeverAccepted, Taken, Held, highest_accepted}

-- asked at the end of a run
abbrev pub why_at : Run → SeqNo → Said
why_at run number = why_of (end_of run).state number

-- the next number to take, counted from the takes
abbrev pub next_after : Run → ℕ
next_after run = run.s.0 + 1 + length (taken_in (history_of run))

-- of one number, which is not the last
pub record Agrees (run : Run) (number : SeqNo) : Type 0 where
  -- the case that is told
  pub the : Case
  pub told : why_at run number ≡ said_case (end_of run).state the
  -- at or below the start exactly if it is at most s
  pub below_is : (the ≡ below_start) ↔ (number.0 ≤ run.s.0)
  -- taken exactly if a take gave it
  pub taken_is : (the ≡ was_taken) ↔ Taken run number.0
  -- ready or behind a gap exactly if it is held
  pub held_is : ((the ≡ is_ready) ⊎ (the ≡ behind_gap)) ↔ Held run number.0
  -- missing exactly if it is in range and was never accepted
  pub missing_is : (the ≡ never_came) ↔ ((run.s.0 < number.0) × (number.0 ≤ highest_accepted run) × NeverAccepted run number.0)
  -- not yet seen exactly if it is above the highest accepted, and less than 512 from the next to take
  pub unseen_is : (the ≡ not_yet_seen) ↔ ((highest_accepted run < number.0) × (number.0 < next_after run + 512))
  -- beyond the span exactly if it is 512 or more from it
  pub beyond_is : (the ≡ beyond_span) ↔ (next_after run + 512 ≤ number.0)

-- It is proved of every run (proofs/Agreed).
pub record AgreesThroughout (run : Run) : Type 0 where
  -- the start in the state is the run's s, whatever was called
  pub start_kept : (end_of run).state.head.start.0 ≡ run.s.0
  pub agrees : (number : SeqNo) → (number.0 ≡ 4294967295 → ⊥) → Agrees run number
  pub last_number_is : (number : SeqNo) → number.0 ≡ 4294967295 → why_at run number ≡ last_number
