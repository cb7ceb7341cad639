-- What a receiver's state may be, and what sizes fit it: document 01, "Receiver". Sums are not cut to 32 bits.
use Rattle.std.specs.Prelude.{ℕ, ◌+◌, ◌-◌, ◌*◌, Bool, ◌||◌, leb, ltb, eqb}
use Rattle.terms.specs.Ladder.{◌and◌}
use Rattle.terms.specs.Lists.{all, each}
use Rattle.receiver_state.specs.Slots.{is_free, is_held, length_of, mark_of, slot_number}
use Rattle.receiver_state.specs.declared.Head.{Head}
use Rattle.receiver_state.specs.declared.Receiver.{Receiver}

-- a slot is free where its number is above highest; none is below next
abbrev pub free_outside : ℕ → ℕ → ℕ → ℕ → Bool
free_outside next highest i mark = leb (slot_number next i) highest || is_free mark

abbrev pub length_at_most : ℕ → ℕ → Bool
length_at_most slot mark = leb (length_of mark) slot

-- those of the state rules that need no table
abbrev pub numbers_of : Head → Bool
numbers_of h =
    leb 1 h.next.0 and
    ltb h.start.0 h.next.0 and
    leb (h.next.0 - 1) h.highest.0 and
    leb h.highest.0 (h.next.0 + 511) and
    leb h.highest.0 4294967294

-- the state rules, in document 01's order; the slot size is judged as it stands, whatever it is
unfoldable pub rules_of : Receiver → Bool
rules_of r =
    let next = r.head.next.0 in
    let highest = r.head.highest.0 in
    -- next at least 1
    leb 1 next and
    -- the start below next
    ltb r.head.start.0 next and
    -- highest from next − 1 to next + 511
    leb (next - 1) highest and
    leb highest (next + 511) and
    -- highest held unless it is next − 1
    is_held (mark_of r.marks highest) || eqb highest (next - 1) and
    -- highest at most 4,294,967,294
    leb highest 4294967294 and
    -- nothing held outside next to highest
    each (free_outside next highest) 0 r.marks and
    -- lengths at most S; and 0 where nothing is held, which no mark can break
    all (length_at_most r.head.slot) r.marks

-- slot size S is 1 to 1,812
unfoldable pub slot_fits : ℕ → Bool
slot_fits slot = leb 1 slot and leb slot 1812

-- and the store exactly 512 × S bytes
unfoldable pub sizes_fit : ℕ → ℕ → Bool
sizes_fit slot store_length = slot_fits slot and eqb store_length (512 * slot)
