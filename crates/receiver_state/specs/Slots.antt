-- The table of 512 marks, one for each slot of the store. A mark is 0 where the slot is free, and the payload's length and one where it is held.
use Rattle.std.specs.Prelude.{ℕ, ◌+◌, ◌-◌, ◌*◌, ◌%◌, Bool, ◌&&◌, not, List, ◌++◌, leb, eqb, length, get_or, take, drop}
use Rattle.terms.specs.Lists.{part, all, ◌at_front_of◌}

abbrev pub is_free : ℕ → Bool
is_free mark = eqb mark 0

abbrev pub is_held : ℕ → Bool
is_held mark = not (is_free mark)

abbrev pub at_most : ℕ → ℕ → Bool
at_most top mark = leb mark top

-- each mark from index from up to index to is at most inner, and each other at most outer
abbrev pub banded_of : List ℕ → ℕ → ℕ → ℕ → ℕ → Bool
banded_of marks from to inner outer =
    all (at_most outer) (part marks 0 from) && (all (at_most inner) (part marks from to) && all (at_most outer) (part marks to (length marks)))

-- the length that a mark says: 0 where nothing is held, since no mark says another
abbrev pub length_of : ℕ → ℕ
length_of mark = mark - 1

-- the mark of a number's slot, which is the number mod 512
abbrev pub mark_of : List ℕ → ℕ → ℕ
mark_of marks number = get_or marks (number % 512) 0

-- the number that slot i stands for: of next to next + 511, the one that is i mod 512
abbrev pub slot_number : ℕ → ℕ → ℕ
slot_number next i = next + (512 + i - next % 512) % 512

-- where a number's slot starts in a store of slots of the given size
abbrev pub offset_of : ℕ → ℕ → ℕ
offset_of slot number = number % 512 * slot

-- the store with a payload at the front of the number's slot, and nothing else touched
abbrev pub filled : List ℕ → ℕ → ℕ → List ℕ → List ℕ
filled store slot number payload = take (offset_of slot number) store ++ (payload at_front_of drop (offset_of slot number) store)

-- the bytes that the mark says are held in the number's slot
abbrev pub held_bytes : List ℕ → ℕ → List ℕ → ℕ → List ℕ
held_bytes marks slot store number = part store (offset_of slot number) (offset_of slot number + length_of (mark_of marks number))
