-- What a sender's state may be, and what sizes fit it: document 01, "Sender". Sums are not cut to 32 bits.
use Rattle.std.specs.Prelude.{ℕ, ◌+◌, ◌*◌, Bool, true, ◌&&◌, ◌||◌, not, leb, ltb, eqb, Option, Some, None}
use Rattle.terms.specs.Ladder.{◌and◌}
use Rattle.terms.specs.Lists.{each}
use Rattle.timer.specs.Timer.{timing_fits}
use Rattle.sender_state.specs.Table.{◌unless◌, is_free, is_waiting, is_flying, count_of}
use Rattle.sender_state.specs.Places.{place_at}
use Rattle.sender_state.specs.declared.Place.{Place}
use Rattle.sender_state.specs.declared.Sender.{Sender}

-- a test at each place, by its index
abbrev pub each_place : Sender → (ℕ → Place → Bool) → Bool
each_place s p = each (λ i mark. p i (place_at s i)) 0 s.marks

-- the rules of one place, and of two
abbrev pub apart : ℕ → Place → ℕ → Place → Bool
apart i p j q = not (eqb p.number.0 q.number.0) unless (eqb i j || (is_free p.mark || is_free q.mark))

abbrev pub below : ℕ → Place → Bool
below next p = ltb p.number.0 next unless is_free p.mark

abbrev pub below_waiting : Place → Place → Bool
below_waiting p q = ltb p.number.0 q.number.0 unless not (is_flying p.mark && is_waiting q.mark)

abbrev pub some_number : Place → Bool
some_number p = leb 1 p.number.0 unless is_free p.mark

abbrev pub free_from : ℕ → ℕ → Place → Bool
free_from count i p = is_free p.mark unless ltb i count

abbrev pub is_emptied : Place → Bool
is_emptied p = eqb p.number.0 0 && (eqb p.size 0 && (eqb p.sent 0 && eqb p.resent 0))

abbrev pub empty_where_free : Place → Bool
empty_where_free p = is_emptied p unless not (is_free p.mark)

abbrev pub unsent : Place → Bool
unsent p = eqb p.sent 0 unless not (is_waiting p.mark)

abbrev pub sent_in_time : ℕ → Place → Bool
sent_in_time clock p = leb p.sent clock

abbrev pub length_within : ℕ → Place → Bool
length_within chunk p = (leb 22 p.size && leb p.size (chunk + 1044)) unless is_free p.mark

abbrev pub never_resent : Place → Bool
never_resent p = eqb p.resent 0 unless not (is_waiting p.mark)

abbrev pub known_values : Place → Bool
known_values p = leb p.mark 2 && leb p.resent 1

-- an armed timer is at most 60,000 past the last clock; it may lie before it
unfoldable pub timer_fits : Option ℕ → ℕ → Bool
timer_fits None clock = true
timer_fits (Some due) clock = leb due (clock + 60000)

-- the state rules, in document 01's order, and document 02's; the sizes are judged as they stand, whatever they are
unfoldable pub rules : Sender → Bool
rules s =
    -- numbers distinct
    each_place s (λ i p. each_place s (apart i p)) and
    -- below next
    each_place s (λ i. below s.next.0) and
    -- in flight below waiting
    each_place s (λ i p. each_place s (λ j. below_waiting p)) and
    -- all of them and next at least 1
    each_place s (λ i. some_number) and
    leb 1 s.next.0 and
    -- places from K on free
    each_place s (free_from s.count) and
    -- every field of a free place 0, and the send time of a waiting packet
    each_place s (λ i. empty_where_free) and
    each_place s (λ i. unsent) and
    -- at most 128 in flight
    leb (count_of 2 s.marks) 128 and
    -- send times at most the last clock
    each_place s (λ i. sent_in_time s.clock) and
    -- timer at most 60,000 past it
    timer_fits s.timer s.clock and
    -- window 1 to 128
    leb 1 s.window and
    leb s.window 128 and
    -- RTT and deviation below 2^32
    timing_fits s.timing and
    -- stored lengths 22 to C + 1,044
    each_place s (λ i. length_within s.chunk) and
    -- last clock at most 10^15
    leb s.clock 1000000000000000 and
    -- document 02, request [5]: a waiting packet is never marked as sent more than once
    each_place s (λ i. never_resent) and
    -- a place is free, waiting or in flight, and its packet was sent more than once or not: no mark has another value
    each_place s (λ i. known_values)

-- chunk size C is 1 to 1,812, slot count K 1 to 192
unfoldable pub counts_fit : ℕ → ℕ → Bool
counts_fit chunk count = leb 1 chunk and leb chunk 1812 and leb 1 count and leb count 192

-- and the store exactly K × (C + 1,044) bytes
unfoldable pub sizes_fit : ℕ → ℕ → ℕ → Bool
sizes_fit chunk count store_length = counts_fit chunk count and eqb store_length (count * (chunk + 1044))

-- a clock below the last accepted one, or above 10^15
unfoldable pub clock_wrong : ℕ → ℕ → Bool
clock_wrong last clock = ltb clock last || ltb 1000000000000000 clock
