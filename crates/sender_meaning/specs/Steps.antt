-- What each call that is done makes of a number's standing. Proved of each call's definition (proofs/).
use Rattle.std.specs.Prelude.{ℕ, zero, suc, ◌+◌, ◌-◌, ◌*◌, ◌<◌, ◌≡◌, Bool, true, false, ◌&&◌, ◌||◌, not, List, [], ◌∷◌, leb, ltb, eqb, length, take, drop}
use Rattle.terms.specs.Ladder.{◌when◌else◌}
use Rattle.terms.specs.Lists.{all}
use Rattle.terms.specs.Answers.{Said, refusal, values}
use Rattle.timer.specs.Timer.{rto_of}
use Rattle.sender_state.specs.Table.{differs, place_of}
use Rattle.sender_state.specs.declared.Sender.{Sender}
use Rattle.sender_state.specs.Numbers.{run, size_of, offset_of}
use Rattle.sender_resend.specs.Resend.{expired_of, is_in}
use Rattle.sender_meaning.specs.Meaning.{Standing, unmade, waits, flies, gone, standing, does_fly}

-- an answer that blames neither the state's rules nor the sizes
abbrev pub is_fair : Said → Bool
is_fair (refusal why) = not (eqb why 11) && not (eqb why 10)
is_fair (values given) = true

-- send: the number that it tells, which was waiting, is in flight since the clock
abbrev pub sent_as : ℕ → ℕ → ℕ → Standing → Standing
sent_as told clock n (waits packet) = flies packet clock when eqb n told else waits packet
sent_as told clock n unmade = unmade
sent_as told clock n (flies packet sent) = flies packet sent
sent_as told clock n gone = gone

-- an acknowledgement names a number: it is at most ack-through, and not NACKed
abbrev pub is_named : ℕ → List ℕ → ℕ → Bool
is_named through nacks n = leb n through && all (differs n) nacks

-- acks: what is in flight and named is gone
abbrev pub acked_as : ℕ → List ℕ → ℕ → Standing → Standing
acked_as through nacks n (flies packet sent) = gone when is_named through nacks n else flies packet sent
acked_as through nacks n unmade = unmade
acked_as through nacks n (waits packet) = waits packet
acked_as through nacks n gone = gone

-- a number flies, with an age above RTO
abbrev pub is_old : ℕ → ℕ → Standing → Bool
is_old rto clock (flies packet sent) = ltb rto (clock - sent)
is_old rto clock unmade = false
is_old rto clock (waits packet) = false
is_old rto clock gone = false

-- the lower numbers that fly
abbrev pub fliers_below : Sender → List ℕ → ℕ → List ℕ
fliers_below s store n = run (λ m. does_fly (standing s store m)) 0 n

-- a number is expired: it and every lower one that flies are old, and those that are lower are fewer than the window
pub record IsExpired (s : Sender) (store : List ℕ) (clock n : ℕ) : Type 0 where
  pub old : is_old (rto_of s.timing) clock (standing s store n) ≡ true
  pub lower_old : (m : ℕ) → m < n → does_fly (standing s store m) ≡ true → is_old (rto_of s.timing) clock (standing s store m) ≡ true
  pub few : length (fliers_below s store n) < s.window

-- the numbers that go out again: the expired, where a new path is given
abbrev pub goes_again : Sender → ℕ → Bool → ℕ → Bool
goes_again s clock path n = path && is_in (expired_of s clock) n

-- resend: those numbers are in flight since the clock, with the packets that they had
abbrev pub resent_as : (ℕ → Bool) → ℕ → ℕ → Standing → Standing
resent_as again clock n (flies packet sent) = flies packet clock when again n else flies packet sent
resent_as again clock n unmade = unmade
resent_as again clock n (waits packet) = waits packet
resent_as again clock n gone = gone

-- the chunk at a place in the row of chunks
abbrev pub chunk_at : ℕ → ℕ → List ℕ → List ℕ
chunk_at chunk k bytes = take chunk (drop (k * chunk) bytes)

-- so many chunks of the row, from a place in it on
abbrev pub chunks_from : ℕ → ℕ → ℕ → List ℕ → List (List ℕ)
chunks_from chunk k zero bytes = []
chunks_from chunk k (suc count) bytes = chunk_at chunk k bytes ∷ chunks_from chunk (suc k) count bytes

-- submit: so many numbers from next on wait, each as the packet of its chunk
abbrev pub submitted_as : (ℕ → List ℕ → List ℕ) → ℕ → ℕ → ℕ → List ℕ → ℕ → Standing → Standing
submitted_as packet chunk next count bytes n before =
    waits (packet n (chunk_at chunk (n - next) bytes)) when leb next n && ltb n (next + count) else before

-- a byte of the store, by its index, is none of a number's packet
abbrev pub is_outside : Sender → ℕ → ℕ → Bool
is_outside s n k =
    let at = offset_of s.chunk (place_of s.numbers n) in
    ltb k at || leb (at + size_of s n) k
