-- What the code's own functions promise: the expired run as the code finds it. No promise of a call that a host makes needs this page.
use Rattle.std.specs.Prelude.{ℕ, ◌≡◌, Bool, ◌&&◌, List, ltb, length}
use Rattle.sender_state.specs.Table.{◌!◌, is_flying, place_of}
use Rattle.sender_state.specs.Numbers.{run, marked_with}
use Rattle.sender_resend.specs.Resend.{expired_in}
use Rattle.sender_resend.specs.declared.Expired.{Expired}

-- what the code's walk finds: the expired numbers are those in flight below end
pub record Expires (numbers sent marks : List ℕ) (next clock rto window : ℕ) (found : Expired) : Type 0 where
  pub below : run (λ n. marked_with 2 marks (place_of numbers n)) 0 found.end ≡ expired_in numbers sent marks next clock rto window
  pub counts : found.count ≡ length (expired_in numbers sent marks next clock rto window)

-- a place in flight whose number is below end
abbrev pub flying_below : List ℕ → List ℕ → ℕ → ℕ → Bool
flying_below numbers marks end i = is_flying (marks ! i) && ltb (numbers ! i) end
