-- The missing numbers of a receiver, ascending: document 01, "Missing: numbers from next to highest not held".
use Rattle.std.specs.Prelude.{ℕ, zero, suc, ◌+◌, ◌-◌, ◌≤◌, Bool, true, false, ◌&&◌, ◌||◌, List, [], ◌∷◌, ltb, eqb}
use Rattle.terms.specs.Ladder.{◌when◌else◌}
use Rattle.terms.specs.Lists.{all}
use Rattle.receiver_state.specs.Slots.{is_free, mark_of}
use Rattle.receiver_calls.specs.Meaning.{Standing, taken, held, missing, unseen}
use Rattle.receiver_state.specs.declared.Receiver.{Receiver}

infix 30 ◌up_to◌
-- so many numbers, each one above the last
abbrev pub counted : ℕ → ℕ → List ℕ
counted first zero = []
counted first (suc count) = first ∷ counted (suc first) count

-- the numbers from first to last, ascending; none where last is below first
abbrev pub ◌up_to◌ : ℕ → ℕ → List ℕ
first up_to last = counted first (last + 1 - first)

-- those of the numbers that pass the test, in the same order
abbrev pub those : (ℕ → Bool) → List ℕ → List ℕ
those test [] = []
those test (n ∷ ns) = (n ∷ those test ns) when test n else those test ns

-- nothing is held in the number's slot
abbrev pub not_held : List ℕ → ℕ → Bool
not_held marks n = is_free (mark_of marks n)

-- numbers from next to highest not held
unfoldable pub missing_from : ℕ → ℕ → List ℕ → List ℕ
missing_from next highest marks = those (not_held marks) (next up_to highest)

abbrev pub missing_of : Receiver → List ℕ
missing_of r = missing_from r.head.next.0 r.head.highest.0 r.marks

-- the numbers from next to highest are at most 512, and none of them is the last number: what the code asks of a state, and every state that
-- keeps the rules has
abbrev pub spanned : Receiver → Type 0
spanned r = (r.head.highest.0 ≤ r.head.next.0 + 511) × (r.head.highest.0 ≤ 4294967294)

-- What the theorems say of such a list.

-- n is one of the numbers
abbrev pub is_among : ℕ → List ℕ → Bool
is_among n [] = false
is_among n (m ∷ ms) = eqb n m || is_among n ms

-- each number is below all those behind it
abbrev pub ascending : List ℕ → Bool
ascending [] = true
ascending (n ∷ ns) = all (ltb n) ns && ascending ns

-- a number that counts as received: taken, at most the s that the start came after, or held
abbrev pub is_received : Standing → Bool
is_received taken = true
is_received (held bytes) = true
is_received missing = false
is_received unseen = false
