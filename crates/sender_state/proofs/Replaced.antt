-- A list with a value in some places, place by place, and the loop that makes it. Assumes nothing.
use Prim.Native.Nat.{ℕ, zero, suc, ◌+◌, ◌≤◌, ◌<◌}
use mathlib.Core.Path.{◌≡◌, refl, sym, ◌∙◌, ap}
use mathlib.Core.Bool.{Bool, true, false}
use mathlib.Core.List.{List, [], ◌∷◌, ◌++◌, append-nil}
use native.Mathlib.Nat.{zero-add, add-suc, suc-add, not-suc-le-zero, le_of_suc-le-suc}
use native.Mathlib.Numerals.{add-one}
use native.Mathlib.Decide.{dec_lt}
use native.Mathlib.Omega.{arith}
use lib.Dec.{eqb}
use lib.ListN.{length, get_or, set, take, drop, drop_of_length-le}
use lib.Seq.{take_all}
use Rattle.terms.specs.Ladder.{◌when◌else◌}
use Rattle.terms.proofs.Laws.{case}
use Rattle.sender_state.specs.Steps.{Flags}
use Rattle.sender_state.specs.Numbers.{marked_with}
use Rattle.sender_state.specs.Table.{◌!◌, one_if, replaced}
use Rattle.sender_state.proofs.Runs.{beyond}

module _ {A : Type 0} (value : A) (p : ℕ → Bool) where
  pub replaced_length : (i : ℕ) (l : List A) → length (replaced value p i l) ≡ length l
  unfolding replaced
  replaced_length i [] = refl
  replaced_length i (x ∷ l) = ap suc (replaced_length (suc i) l)

  replaced_from : (i : ℕ) (l : List A) (k : ℕ) (d : A) → k < length l → get_or (replaced value p i l) k d ≡ (value when p (i + k) else get_or l k d)
  unfolding replaced
  replaced_from i [] k d h = absurd (not-suc-le-zero h)
  replaced_from i (x ∷ l) zero d h = ap (λ (n : ℕ). value when p n else x) (omega arith)
  replaced_from i (x ∷ l) (suc k) d h = replaced_from (suc i) l k d (le_of_suc-le-suc h) ∙ ap (λ (n : ℕ). value when p n else get_or l k d) (suc-add i k ∙ sym (add-suc i k))

  -- the loop: the first i places are done, and the rest is as it was
  abbrev done_from : ℕ → ℕ → List A → List A
  done_from j i l = replaced value p j (take i l) ++ drop i l

  one_more : (j : ℕ) (l : List A) (i : ℕ) (d y : A) → i < length l → y ≡ (value when p (j + i) else get_or (done_from j i l) i d)
      → set (done_from j i l) i y ≡ done_from j (suc i) l
  unfolding replaced
  one_more j [] i d y h e = absurd (not-suc-le-zero h)
  one_more j (x ∷ l) zero d y h e = ap (λ (z : A). z ∷ l) (e ∙ ap (λ (n : ℕ). value when p n else x) (omega arith))
  one_more j (x ∷ l) (suc i) d y h e =
      ap (λ (r : List A). (value when p j else x) ∷ r)
      (one_more (suc j) l i d y (le_of_suc-le-suc h) (e ∙ ap (λ (n : ℕ). value when p n else get_or (done_from (suc j) i l) i d) (add-suc j i ∙ sym (suc-add j i))))

  abbrev pub done : ℕ → List A → List A
  done i l = done_from 0 i l

  pub replace_start : (l : List A) → l ≡ done 0 l
  unfolding replaced
  replace_start l = refl

  pub replace_more : (l now : List A) (i : ℕ) (d y : A) → i < length l → now ≡ done i l → y ≡ (value when p i else get_or now i d) → set now i y ≡ done (i + 1) l
  replace_more l now i d y h e f =
      let z : 0 + i ≡ i = omega arith in
      rw (e, add-one) (one_more 0 l i d y h (rw (z, ← e) f))

  pub replace_end : (l now : List A) (i : ℕ) → length l ≤ i → now ≡ done i l → now ≡ replaced value p 0 l
  replace_end l now i h e = e ∙ rw (take_all i l h, drop_of_length-le l h, append-nil)

pub replaced_at : (value : ℕ) (p : ℕ → Bool) (l : List ℕ) (k : ℕ) → k < length l → replaced value p 0 l ! k ≡ (value when p k else (l ! k))
replaced_at value p l k h = replaced_from value p 0 l k 0 h ∙ ap (λ (n : ℕ). value when p n else (l ! k)) (zero-add k)

-- flags say of each index what they were made of
pub flags_same : (p : ℕ → Bool) (flags : List ℕ) → Flags p flags → ((i : ℕ) → 192 ≤ i → p i ≡ false) → marked_with 1 flags ≡ p
flags_same p flags f out = λ k i. are i k where
  one_back : (b : Bool) → eqb (one_if b) 1 ≡ b
  one_back true = refl
  one_back false = refl

  are : (i : ℕ) → marked_with 1 flags i ≡ p i
  are i =
      case
      (λ (q : i < 192). rw (f.at_place i q) (one_back (p i)))
      (λ (q : i < 192 → ⊥). rw (beyond flags i 0 (omega (arith, f.long)), out i (omega arith)))
      (dec_lt i 192)
