-- What start does, whatever it is given.
use Rattle.std.specs.Prelude.{ℕ, ◌+◌, not, [], eqb, replicate}
use Rattle.terms.specs.declared.SeqNo.{SeqNo}
use Rattle.terms.specs.Ladder.{◌when◌else◌}
use Rattle.terms.specs.Answers.{Said, refusal, values, ◌unless_refused◌else◌, said}
use Rattle.receiver_state.specs.Answers.{Outcome}
use Rattle.receiver_state.specs.Rules.{sizes_fit}
use Rattle.receiver_state.specs.declared.Receiver.{Receiver}
use Rattle.receiver_state.specs.declared.Started.{Started}

-- the answer, by document 01's numbers in its order
unfoldable pub start_said : SeqNo → ℕ → ℕ → Said
start_said s slot store_length =
    -- slot size or store length wrong
    refusal 10 when not (sizes_fit slot store_length) else
    -- the s to start after is 4,294,967,295
    refusal 12 when eqb s.0 4294967295 else
    values []

-- a state with nothing held: highest is the number that the start came after
abbrev pub nothing_held : ℕ → SeqNo → SeqNo → Receiver
nothing_held slot s next = record { head = record { slot = slot; start = s; next = next; highest = s }; marks = replicate 512 0 }

-- a start after s has next to take s + 1 and highest s
abbrev pub fresh : SeqNo → ℕ → Receiver
fresh s slot = nothing_held slot s (record { 0 = s.0 + 1 })

-- what stands beside a refused start: a state whose next is 0, so that every later call refuses it with 11
abbrev pub unusable : Receiver
unusable = nothing_held 0 (record { 0 = 0 }) (record { 0 = 0 })

-- the whole outcome; a start is lent nothing to change
abbrev pub start_of : SeqNo → ℕ → ℕ → Outcome
start_of s slot store_length = record {
  says = start_said s slot store_length;
  state = fresh s slot unless_refused start_said s slot store_length else unusable;
  lent = [];
}

-- a result of the code, as an outcome
abbrev pub started : Started → Outcome
started r = record { says = said r.answer; state = r.state; lent = [] }
