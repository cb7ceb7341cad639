-- The one law of folds: two strings one behind the other are read one after the other. So, whatever the cut, the same is read. Assumes nothing.
use Prim.Native.Nat.{ℕ}
use mathlib.Core.Path.{◌≡◌, refl, sym}
use mathlib.Core.List.{List, [], ◌∷◌, ◌++◌, append_assoc}
use Rattle.terms.specs.Lists.{joined}
use Rattle.portions.specs.Fold.{Left, behind, read_all, read_portions}

pub behind_behind : {State Given : Type 0} (a b : List Given) (left : Left State Given) → behind a (behind b left) ≡ behind (a ++ b) left
behind_behind a b left = rw (append_assoc a b left.gave)

module _ {State Given : Type 0} (step : State → ℕ → Left State Given) where
  pub in_two : (state : State) (xs ys : List ℕ) → read_all step state (xs ++ ys) ≡ behind (read_all step state xs).gave (read_all step (read_all step state xs).state ys)
  in_two state [] ys = refl
  in_two state (x ∷ xs) ys =
      rw (in_two (step state x).state xs ys)
      (behind_behind (step state x).gave (read_all step (step state x).state xs).gave (read_all step (read_all step (step state x).state xs).state ys))

  pub however_cut : (state : State) (portions : List (List ℕ)) → read_portions step state portions ≡ read_all step state (joined portions)
  however_cut state [] = refl
  however_cut state (portion ∷ rest) =
      rw (however_cut (read_all step state portion).state rest) (sym (in_two state portion (joined rest)))
