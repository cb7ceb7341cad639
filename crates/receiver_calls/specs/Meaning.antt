-- What a state and a store say of each number. The laws of start, accept and take are told in these words (proofs/Laws).
use Rattle.std.specs.Prelude.{ℕ, ◌-◌, ◌≡◌, Bool, true, ◌&&◌, List, [], ◌∷◌, leb, ltb, length}
use Rattle.terms.specs.Ladder.{◌when◌else◌}
use Rattle.terms.specs.Answers.{Said, refusal, values}
use Rattle.receiver_state.specs.Slots.{is_free, mark_of, held_bytes}
use Rattle.receiver_state.specs.Rules.{rules_of, sizes_fit}
use Rattle.receiver_state.specs.declared.Receiver.{Receiver}

pub data Standing : Type 0 where
  -- taken, or at or below the number that the start came after: the history alone tells these two apart
  taken : Standing
  -- accepted and not yet taken, with these bytes
  held : List ℕ → Standing
  -- not accepted, and not above highest
  missing : Standing
  -- above highest
  unseen : Standing

-- each number has one standing
unfoldable pub standing : Receiver → List ℕ → ℕ → Standing
standing r store n =
    taken when ltb n r.head.next.0 else
    unseen when ltb r.head.highest.0 n else
    missing when is_free (mark_of r.marks n) else
    held (held_bytes r.marks r.head.slot store n)

-- the missing numbers, which need no store to be told
abbrev pub is_missing : Receiver → ℕ → Bool
is_missing r n = leb r.head.next.0 n && (leb n r.head.highest.0 && is_free (mark_of r.marks n))

-- a state and a store that belong together: the table is whole, the rules hold, and the sizes fit
pub record Sound (r : Receiver) (store : List ℕ) : Type 0 where
  pub table : length r.marks ≡ 512
  pub keeps : rules_of r ≡ true
  pub fits : sizes_fit r.head.slot (length store) ≡ true

-- what accept answers in a sound state to a usable number, by the number's standing
abbrev pub accept_by : Standing → Receiver → ℕ → ℕ → Said
accept_by taken r number size = refusal 13
accept_by (held bytes) r number size = refusal 15
accept_by missing r number size = refusal 16 when ltb r.head.slot size else values []
accept_by unseen r number size = refusal 14 when leb 512 (number - r.head.next.0) else refusal 16 when ltb r.head.slot size else values []

-- what take answers in a sound state, by the standing of the next number
abbrev pub take_by : Standing → ℕ → Said
take_by taken room = refusal 17
take_by (held bytes) room = refusal 7 when ltb room (length bytes) else values (length bytes ∷ [])
take_by missing room = refusal 17
take_by unseen room = refusal 17
