-- A run of a sender with one call more: what its calls leave, and what its history tells. Assumes nothing.
use Prim.Native.Nat.{ℕ}
use mathlib.Core.Path.{◌≡◌, refl, ap}
use mathlib.Core.Bool.{Bool, true, false, ◌||◌}
use mathlib.Core.List.{List, [], ◌∷◌, ◌++◌}
use mathlib.Core.Option.{Option, none, some, or_else}
use Rattle.sender_runs.specs.Runs.{Call, submit, send, acks, resend, fetch, Event, Kept, step_of, kept_after, events_of}
use Rattle.sender_runs.specs.Remembers.{made_by, made_in, named_by, named_in}

-- an event tells its call
pub asked_is : (kept : Kept) (call : Call) → (step_of kept call).event.asked ≡ call
asked_is kept (submit r to from bytes) = refl
asked_is kept (send clock output) = refl
asked_is kept (acks through nacks clock) = refl
asked_is kept (resend clock path) = refl
asked_is kept (fetch rank output) = refl

module _ (call : Call) where
  pub kept_more : (kept : Kept) (calls : List Call) → kept_after kept (calls ++ (call ∷ [])) ≡ (step_of (kept_after kept calls) call).kept
  kept_more kept [] = refl
  kept_more kept (c ∷ calls) = kept_more (step_of kept c).kept calls

  pub events_more : (kept : Kept) (calls : List Call) → events_of kept (calls ++ (call ∷ [])) ≡ events_of kept calls ++ ((step_of (kept_after kept calls) call).event ∷ [])
  events_more kept [] = refl
  events_more kept (c ∷ calls) = ap (λ (l : List Event). (step_of kept c).event ∷ l) (events_more (step_of kept c).kept calls)

-- one or another, and then none
pub or_else_none : (o : Option (List ℕ)) → or_else o none ≡ o
unfolding or_else
or_else_none none = refl
or_else_none (some x) = refl

pub or_else_assoc : (a b c : Option (List ℕ)) → or_else a (or_else b c) ≡ or_else (or_else a b) c
unfolding or_else
or_else_assoc none b c = refl
or_else_assoc (some x) b c = refl

or_assoc : (a b c : Bool) → (a || (b || c)) ≡ ((a || b) || c)
or_assoc true b c = refl
or_assoc false b c = refl

-- what was made and what was named, with more events
pub made_more : (chunk n : ℕ) (h rest : List Event) → made_in chunk n (h ++ rest) ≡ or_else (made_in chunk n h) (made_in chunk n rest)
unfolding or_else
made_more chunk n [] rest = refl
made_more chunk n (x ∷ h) rest =
    rw (made_more chunk n h rest) (or_else_assoc (made_by chunk n x.asked x.next x.answered) (made_in chunk n h) (made_in chunk n rest))

pub named_more : (n : ℕ) (h rest : List Event) → named_in n (h ++ rest) ≡ (named_in n h || named_in n rest)
named_more n [] rest = refl
named_more n (x ∷ h) rest = rw (named_more n h rest) (or_assoc (named_by n x.asked x.answered) (named_in n h) (named_in n rest))
