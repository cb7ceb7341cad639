-- What start does, whatever it is given.
use Rattle.std.specs.Prelude.{ℕ, not, [], eqb, None}
use Rattle.terms.specs.declared.SeqNo.{SeqNo}
use Rattle.terms.specs.Ladder.{◌when◌else◌}
use Rattle.terms.specs.Answers.{Said, refusal, values, ◌unless_refused◌else◌, said}
use Rattle.sender_state.specs.Answers.{Outcome}
use Rattle.sender_state.specs.Places.{all_free, state_of}
use Rattle.sender_state.specs.Rules.{sizes_fit}
use Rattle.sender_state.specs.declared.Sender.{Sender}
use Rattle.sender_state.specs.declared.Started.{Started}

-- the answer, by document 01's numbers in its order
unfoldable pub start_said : ℕ → ℕ → ℕ → ℕ → Said
start_said first chunk count store_length =
    -- chunk size, slot count or store length wrong
    refusal 10 when not (sizes_fit chunk count store_length) else
    -- first number 0
    refusal 20 when eqb first 0 else
    values []

-- window 1, nothing stored, timer unarmed, last clock 0
abbrev pub nothing_stored : ℕ → ℕ → ℕ → Sender
nothing_stored chunk count next =
    state_of chunk count next 1 None None 0 all_free

-- what stands beside a refused start: a state whose next is 0, so that every later call refuses it with 11
abbrev pub unusable : Sender
unusable = nothing_stored 0 0 0

-- the whole outcome; a start is lent nothing to change
abbrev pub start_of : SeqNo → ℕ → ℕ → ℕ → Outcome
start_of first chunk count store_length = record {
  says = start_said first.0 chunk count store_length;
  state = nothing_stored chunk count first.0 unless_refused start_said first.0 chunk count store_length else unusable;
  lent = [];
}

-- a result of the code, as an outcome
abbrev pub started : Started → Outcome
started r = record { says = said r.answer; state = r.state; lent = [] }
