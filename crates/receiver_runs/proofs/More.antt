-- A run of a receiver with one call more: what its calls leave, and what its history tells; and what the packet of an acknowledge claims, by its answer. Assumes nothing.
use Prim.Native.Nat.{ℕ}
use mathlib.Core.Path.{◌≡◌, refl, sym, ◌∙◌, ap}
use mathlib.Core.Bool.{true}
use mathlib.Core.List.{List, [], ◌∷◌, ◌++◌, append_assoc}
use lib.Dec.{ltb}
use lib.ListN.{length, get_or}
use Rattle.terms.specs.declared.StreamId.{StreamId}
use Rattle.terms.specs.Answers.{values}
use Rattle.terms.proofs.Laws.{and_left, and_right, and_both, past}
use Rattle.receiver_calls.proofs.Laws.{slot_fits_lem}
use Rattle.receiver_ack.specs.Acknowledge.{plain_ack_of}
use Rattle.receiver_ack.proofs.PlainAck.{acknowledge_by_room}
use Rattle.receiver_runs.specs.Runs.{Call, accept, take, acknowledge, Event, Kept, step_of, kept_after, events_of, in_width, all_in_width, Run, end_of}
use Rattle.receiver_runs.specs.History.{accepted_by, accepted_in}
use Rattle.receiver_runs.specs.Delivered.{ack_of, ack_packet, Honest}
use Rattle.receiver_runs.proofs.Places.{known}
use Rattle.receiver_runs.proofs.Claims.{nothing_hidden}

-- an event tells its call
pub asked_is : (kept : Kept) (call : Call) → (step_of kept call).event.asked ≡ call
asked_is kept (accept number payload) = refl
asked_is kept (take output) = refl
asked_is kept (acknowledge send recv output) = refl

module _ (call : Call) where
  pub kept_more : (kept : Kept) (calls : List Call) → kept_after kept (calls ++ (call ∷ [])) ≡ (step_of (kept_after kept calls) call).kept
  kept_more kept [] = refl
  kept_more kept (c ∷ calls) = kept_more (step_of kept c).kept calls

  pub events_more : (kept : Kept) (calls : List Call) → events_of kept (calls ++ (call ∷ [])) ≡ events_of kept calls ++ ((step_of (kept_after kept calls) call).event ∷ [])
  events_more kept [] = refl
  events_more kept (c ∷ calls) = ap (λ (l : List Event). (step_of kept c).event ∷ l) (events_more (step_of kept c).kept calls)

  pub widths_more : (calls : List Call) → all_in_width calls ≡ true → in_width call ≡ true → all_in_width (calls ++ (call ∷ [])) ≡ true
  widths_more [] e f = and_both (in_width call) true f refl
  widths_more (c ∷ calls) e f =
      and_both (in_width c) (all_in_width (calls ++ (call ∷ []))) (and_left (in_width c) (all_in_width calls) e) (widths_more calls (and_right (in_width c) (all_in_width calls) e) f)

-- what was accepted, with more events
pub accepted_more : (h rest : List Event) → accepted_in (h ++ rest) ≡ accepted_in h ++ accepted_in rest
accepted_more [] rest = refl
accepted_more (e ∷ h) rest = rw (accepted_more h rest, append_assoc (accepted_by e.asked e.answered) (accepted_in h) (accepted_in rest))

-- the packet of each acknowledge that is done, as long as it answers, is honest
pub ack_honest : (run : Run) (send recv : StreamId) (output given : List ℕ) → in_width (acknowledge send recv output) ≡ true → (ack_of run send recv output).answered ≡ values given
    → Honest run (ack_packet (ack_of run send recv output) (get_or given 0 0))
ack_honest run send recv output given wide done =
    let r = (end_of run).state in
    let size = length (plain_ack_of r send recv) in
    let answer = acknowledge_by_room r send recv output (known run).sound.keeps (slot_fits_lem r (end_of run).store (known run).sound) in
    let past-7 = (past 7 (ltb (length output) size) (values (size ∷ [])) given (sym answer ∙ done)).1 in
    let is : given ≡ size ∷ [] = cc in
    rw is ((nothing_hidden run).honest send recv output size wide (done ∙ ap values is))
