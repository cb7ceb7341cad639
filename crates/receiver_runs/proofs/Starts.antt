-- The number that the start came after stays in the state, whatever is called. Assumes nothing.
use Prim.Native.Nat.{ℕ}
use mathlib.Core.Path.{◌≡◌, refl, ap}
use mathlib.Core.List.{List, []}
use lib.ListN.{length}
use Rattle.terms.specs.declared.SeqNo.{SeqNo}
use Rattle.terms.specs.Answers.{Said, refusal, values, ◌unless_refused◌else◌}
use Rattle.receiver_state.specs.Start.{start_of}
use Rattle.receiver_state.specs.declared.Receiver.{Receiver}
use Rattle.receiver_calls.specs.Accept.{accept_said, entering, accept_of}
use Rattle.receiver_calls.specs.Take.{take_said, passing, take_of}
use Rattle.receiver_calls.proofs.Laws.{start_done}

pub start_start : (s : SeqNo) (slot : ℕ) (store : List ℕ) → (start_of s slot (length store)).says ≡ values [] → (start_of s slot (length store)).state.head.start.0 ≡ s.0
start_start s slot store done = ap (λ (x : Receiver). x.head.start.0) (start_done s slot store done)

-- what is left of a state where a call was done, and where it was refused
left : (before after : Receiver) → after.head.start ≡ before.head.start → (answer : Said) → (after unless_refused answer else before).head.start ≡ before.head.start
left before after e (refusal why) = refl
left before after e (values given) = e

pub accept_start : (r : Receiver) (number : SeqNo) (payload store : List ℕ) → (accept_of r number payload store).state.head.start ≡ r.head.start
unfolding accept_of entering
accept_start r number payload store = left r (entering r number (length payload)) refl (accept_said r number (length payload) (length store))

pub take_start : (r : Receiver) (store output : List ℕ) → (take_of r store output).state.head.start ≡ r.head.start
unfolding take_of passing
take_start r store output = left r (passing r) refl (take_said r (length store) (length output))
