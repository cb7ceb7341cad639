-- What the code's own searches promise. No promise of a call that a host makes needs this page.
use Rattle.std.specs.Prelude.{ℕ, ◌+◌, ◌≤◌, ◌<◌, ◌≡◌, true, [], ◌∷◌, length, Result}
use Rattle.terms.specs.Answers.{Said, told}
use Rattle.terms.specs.declared.Refusal.{Refusal}
use Rattle.sender_state.specs.Numbers.{numbers_where, marked_with, waiting, size_of, offset_of}
use Rattle.sender_state.specs.Rules.{sizes_fit}
use Rattle.sender_state.specs.Table.{◌!◌, place_of}
use Rattle.sender_state.specs.declared.Sender.{Sender}
use Rattle.sender_send.specs.declared.Packet.{Packet}

-- the packet of a number: where it stands, within the table and, where the sizes fit it, within the store
pub record Stands (s : Sender) (number : ℕ) (packet : Packet) : Type 0 where
  pub number_is : packet.number.0 ≡ number
  pub place_is : packet.place ≡ place_of s.numbers number
  pub size_is : packet.size ≡ size_of s number
  pub low : packet.place < 192
  pub stored : (store_length : ℕ) → sizes_fit s.chunk s.count store_length ≡ true → offset_of s.chunk packet.place + packet.size ≤ store_length

-- the packet at a rank of those that bear a mark
pub record RanksAt (s : Sender) (wanted rank : ℕ) (packet : Packet) : Type 0 where
  pub inside : rank < length (numbers_where s.numbers s.next.0 (marked_with wanted s.marks))
  pub stands : Stands s (numbers_where s.numbers s.next.0 (marked_with wanted s.marks) ! rank) packet

-- what is known of the packet that leaves
pub record Leaving (s : Sender) (clock store_length room : ℕ) (packet : Packet) : Type 0 where
  pub stands : Stands s (waiting s ! 0) packet
  pub inside : offset_of s.chunk packet.place + packet.size ≤ store_length
  pub fits : packet.size ≤ room
  pub clock_most : clock ≤ 1000000000000000

-- and what is said of it
abbrev pub said_leaving : Result Packet Refusal → Said
said_leaving answer = told (λ packet. packet.number.0 ∷ packet.size ∷ []) answer
