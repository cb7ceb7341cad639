-- The same reader in calls: each stops at the first thing that is given out, and says how many bytes it used. The host offers the others again.
use Rattle.std.specs.Prelude.{ℕ, suc, ◌+◌, List, [], ◌∷◌, ◌++◌, take, drop}
use Rattle.portions.specs.Fold.{Left}

-- one call
pub record OneCall (State Given : Type 0) : Type 0 where
  -- what is given out: one thing, or nothing where the portion ends first
  pub gave : List Given
  pub used : ℕ
  pub state : State

-- all calls: what is given out in them, and what is then left of the line
pub record Offered (State Given : Type 0) : Type 0 where
  pub gave : List Given
  pub state : State
  pub unused : List ℕ

-- after a byte: something given ends the call, and else the portion goes on
abbrev pub unless_given : {State Given : Type 0} → List Given → State → OneCall State Given → OneCall State Given
unless_given (given ∷ none) state rest = record { gave = given ∷ []; used = 1; state = state }
unless_given [] state rest = record { gave = rest.gave; used = suc rest.used; state = rest.state }

-- a call that used so many bytes before
abbrev pub used_before : {State Given : Type 0} → ℕ → OneCall State Given → OneCall State Given
used_before n reading = record { gave = reading.gave; used = n + reading.used; state = reading.state }

module _ {State Given : Type 0} (step : State → ℕ → Left State Given) where
  abbrev pub until_given : State → List ℕ → OneCall State Given
  until_given state [] = record { gave = []; used = 0; state = state }
  until_given state (byte ∷ rest) = unless_given (step state byte).gave (step state byte).state (until_given (step state byte).state rest)

  -- of the bytes not yet used, each call is offered as many from the front as there happen to be: any number, and none too
  abbrev pub offered : State → List ℕ → List ℕ → Offered State Given
  offered state line [] = record { gave = []; state = state; unused = line }
  offered state line (size ∷ sizes) =
      let one = until_given state (take size line) in
      let then = offered one.state (drop one.used line) sizes in
      record { gave = one.gave ++ then.gave; state = then.state; unused = then.unused }
