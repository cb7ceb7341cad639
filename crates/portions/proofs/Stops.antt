-- Any reader of which a byte gives out one thing at most: what a portion holds is what a call gives, and then what the bytes hold that it did not
-- use. So after any offers the whole line gives what the calls gave, and then what the bytes not yet used give. Assumes nothing.
use Prim.Native.Nat.{ℕ, suc, ◌≤◌, ◌<◌}
use mathlib.Core.Path.{◌≡◌, refl, ap, sym, ◌∙◌}
use mathlib.Core.List.{List, [], ◌∷◌, ◌++◌, append-nil}
use native.Mathlib.Omega.{arith}
use lib.ListN.{length, take, drop, take-append-drop}
use lib.Seq.{drop-append-le}
use Rattle.portions.specs.Fold.{Left, behind, read_all}
use Rattle.portions.specs.Stops.{unless_given, until_given, offered}
use Rattle.portions.proofs.Folds.{in_two, behind_behind}

module _ {State Given : Type 0} (step : State → ℕ → Left State Given)
    (one_at_most : (state : State) (byte : ℕ) (x : Given) (y : List Given) → (step state byte).gave ≡ x ∷ y → y ≡ []) where
  -- the law of a call, over its parts
  pub record Does (state : State) (portion : List ℕ) (gave : List Given) (used : ℕ) (after : State) : Type 0 where
    pub is : read_all step state portion ≡ behind gave (read_all step after (drop used portion))
    pub in_portion : used ≤ length portion
    -- it gives nothing only where it has used all
    pub on_nothing : gave ≡ [] → used ≡ length portion
    -- and something only where it has used a byte
    pub on_given : (x : Given) (y : List Given) → gave ≡ x ∷ y → (0 < used) × (y ≡ [])

  pub does : (state : State) (portion : List ℕ)
      → Does state portion (until_given step state portion).gave (until_given step state portion).used (until_given step state portion).state
  does state [] =
      record {
        is = refl;
        in_portion = omega arith;
        on_nothing = λ _. refl;
        on_given = λ _ _ e. cc;
      }
  does state (byte ∷ rest) = go (step state byte).gave refl (does (step state byte).state rest)
    where
      go : (gave : List Given) → (step state byte).gave ≡ gave
          → Does (step state byte).state rest (until_given step (step state byte).state rest).gave (until_given step (step state byte).state rest).used
          (until_given step (step state byte).state rest).state
          → Does state (byte ∷ rest) (unless_given gave (step state byte).state (until_given step (step state byte).state rest)).gave
          (unless_given gave (step state byte).state (until_given step (step state byte).state rest)).used
          (unless_given gave (step state byte).state (until_given step (step state byte).state rest)).state
      go (given ∷ others) e d =
          record {
            is = rw (e, one_at_most state byte given others e);
            in_portion = omega arith;
            on_nothing = λ n. cc;
            on_given = λ x y q. (omega arith, cc);
          }
      go [] e d =
          record {
            is = rw e d.is;
            in_portion = omega (arith, d.in_portion);
            on_nothing = λ n. ap suc (d.on_nothing n);
            on_given = λ x y q. (omega arith, (d.on_given x y q).1);
          }

  -- more bytes of the line behind the portion
  pub in_line : (state : State) (portion rest : List ℕ) (gave : List Given) (used : ℕ) (after : State)
      → read_all step state portion ≡ behind gave (read_all step after (drop used portion)) → used ≤ length portion
      → read_all step state (portion ++ rest) ≡ behind gave (read_all step after (drop used (portion ++ rest)))
  in_line state portion rest gave used after law within =
      rw (in_two step state portion rest, law, drop-append-le used portion rest within, in_two step after (drop used portion) rest)
      (sym (behind_behind gave (read_all step after (drop used portion)).gave (read_all step (read_all step after (drop used portion)).state rest)))

  pub nothing_lost : (state : State) (line sizes : List ℕ)
      → read_all step state line ≡ behind (offered step state line sizes).gave (read_all step (offered step state line sizes).state (offered step state line sizes).unused)
  nothing_lost state line [] = refl
  nothing_lost state line (size ∷ sizes) =
      let one = until_given step state (take size line) in
      let then = offered step one.state (drop one.used line) sizes in
      let d = does state (take size line) in
      (rw (take-append-drop size line) at (in_line state (take size line) (drop size line) one.gave one.used one.state d.is d.in_portion))
      ∙ ap (behind one.gave) (nothing_lost one.state (drop one.used line) sizes)
      ∙ behind_behind one.gave then.gave (read_all step then.state then.unused)

  -- where all is used, the calls gave what the line gives
  pub however_offered : (state : State) (line sizes : List ℕ) → (offered step state line sizes).unused ≡ []
      → read_all step state line ≡ record { state = (offered step state line sizes).state; gave = (offered step state line sizes).gave }
  however_offered state line sizes e = (rw e at (nothing_lost state line sizes)) ∙ rw (append-nil (offered step state line sizes).gave)
