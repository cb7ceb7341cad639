-- A sender's table by number: which numbers wait and which are in flight, ascending, and the packet of each.
use Rattle.std.specs.Prelude.{ℕ, zero, suc, ◌+◌, ◌*◌, Bool, List, [], ◌∷◌, eqb}
use Rattle.terms.specs.Ladder.{◌when◌else◌}
use Rattle.terms.specs.Lists.{part}
use Rattle.sender_state.specs.Table.{◌!◌, place_of}
use Rattle.sender_state.specs.declared.Sender.{Sender}

-- of count numbers from `from` on, those that pass, ascending
unfoldable pub run : (ℕ → Bool) → ℕ → ℕ → List ℕ
run p from zero = []
run p from (suc count) = (from ∷ run p (suc from) count) when p from else run p (suc from) count

-- the numbers below next whose place passes, ascending
abbrev pub numbers_where : List ℕ → ℕ → (ℕ → Bool) → List ℕ
numbers_where numbers next p = run (λ n. p (place_of numbers n)) 0 next

abbrev pub marked_with : ℕ → List ℕ → ℕ → Bool
marked_with mark marks i = eqb (marks ! i) mark

abbrev pub waiting : Sender → List ℕ
waiting s = numbers_where s.numbers s.next.0 (marked_with 1 s.marks)

abbrev pub in_flight : Sender → List ℕ
in_flight s = numbers_where s.numbers s.next.0 (marked_with 2 s.marks)

-- the length of a number's packet, and its bytes: at the front of its place in the store
abbrev pub size_of : Sender → ℕ → ℕ
size_of s n = s.lengths ! place_of s.numbers n

abbrev pub offset_of : ℕ → ℕ → ℕ
offset_of chunk place = place * (chunk + 1044)

abbrev pub bytes_at : ℕ → ℕ → ℕ → List ℕ → List ℕ
bytes_at chunk place size store = part store (offset_of chunk place) (offset_of chunk place + size)

abbrev pub stored_packet : Sender → List ℕ → ℕ → List ℕ
stored_packet s store n = bytes_at s.chunk (place_of s.numbers n) (size_of s n) store
