-- The notation of a call's refusals, a ladder in document 01's order, read from the top, and of a state's rules.
use Rattle.std.specs.Prelude.{Bool, true, false, ◌&&◌}

infixr 20 ◌when◌else◌
-- `a when t else b` is a where the test t holds, and b elsewhere
abbrev pub ◌when◌else◌ : {A : Type 0} → A → Bool → A → A
a when true else b = a
a when false else b = b

infixr 25 ◌and◌
-- one rule after the other
abbrev pub ◌and◌ : Bool → Bool → Bool
a and b = a && b
