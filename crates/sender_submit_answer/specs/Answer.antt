-- What submit answers, whatever it is given, and how many packets it makes.
use Rattle.std.specs.Prelude.{ℕ, ◌+◌, ◌-◌, ◌/◌, ◌&&◌, ◌||◌, not, [], ◌∷◌, leb, ltb, eqb, take}
use Rattle.terms.specs.Ladder.{◌when◌else◌}
use Rattle.terms.specs.Answers.{Said, refusal, values}
use Rattle.receiver_state.specs.Rules.{rules_of, slot_fits}
use Rattle.receiver_state.specs.declared.Receiver.{Receiver}
use Rattle.sender_state.specs.Table.{count_of}
use Rattle.sender_state.specs.Rules.{rules, sizes_fit}
use Rattle.sender_state.specs.declared.Sender.{Sender}

-- how many chunks so many bytes make; the last may be shorter
abbrev pub chunks_of : ℕ → ℕ → ℕ
chunks_of chunk size = (size + (chunk - 1)) / chunk

-- how many of the K places are free
abbrev pub free_of : Sender → ℕ
free_of s = count_of 0 (take s.count s.marks)

-- the answer, by document 01's numbers in its order: how many packets were made
unfoldable pub submit_said : Sender → Receiver → ℕ → ℕ → Said
submit_said s r size store_length =
    -- either state breaks its rules
    refusal 11 when not (rules s && rules_of r) else
    -- chunk size, slot count or store length wrong, or the receiver's slot size; the receiver's store is not lent
    refusal 10 when not (sizes_fit s.chunk s.count store_length && slot_fits r.head.slot) else
    -- submit while packets wait
    refusal 21 when ltb 0 (count_of 1 s.marks) else
    -- submitted length 0 or above 65,535
    refusal 19 when eqb size 0 || ltb 65535 size else
    -- the last number would be 4,294,967,295 or more
    refusal 20 when leb 4294967295 (s.next.0 + (chunks_of s.chunk size - 1)) else
    -- fewer free slots than packets
    refusal 18 when ltb (free_of s) (chunks_of s.chunk size) else
    values (chunks_of s.chunk size ∷ [])
