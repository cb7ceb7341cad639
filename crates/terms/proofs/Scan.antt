-- The loop that tests a part of a list, for any test p. Assumes nothing.
use mathlib.Core.Path.{◌≡◌, refl, ap, sym, ◌∙◌}
use mathlib.Core.Bool.{Bool, true, ◌&&◌, and-true, and_assoc}
use mathlib.Core.List.{List, [], ◌∷◌, ◌++◌}
use Prim.Native.Nat.{ℕ, suc, ◌+◌, ◌-◌, ◌≤◌, ◌<◌, min, max}
use native.Mathlib.Omega.{arith}
use native.Mathlib.Decide.{dec_le}
use lib.ListN.{length, get_or, take, drop, length-drop}
use lib.Seq.{take-suc, take_all, get_or-drop}
use Rattle.terms.specs.Lists.{all, part}
use Rattle.terms.proofs.Laws.{case}

pub all_append : (p : ℕ → Bool) (a b : List ℕ) → all p (a ++ b) ≡ (all p a && all p b)
all_append p [] b = refl
all_append p (x ∷ a) b = ap (λ (t : Bool). p x && t) (all_append p a b) ∙ sym (and_assoc (p x) (all p a) (all p b))

-- a list is a part of itself
pub whole : (p : ℕ → Bool) (l : List ℕ) → all p (part l 0 (length l)) ≡ all p l
whole p l = ap (all p) (take_all (length l - 0) l (omega arith))

pub record Scanned (p : ℕ → Bool) (l : List ℕ) (n from to end : ℕ) (ok : Bool) (i : ℕ) : Type 0 where
  pub long : length l ≡ n
  pub low : from ≤ i
  pub high : i ≤ max from end
  pub ends : end ≡ min to n
  pub is : ok ≡ all p (part l from i)

module _ (p : ℕ → Bool) (l : List ℕ) (n from to end : ℕ) where
  pub scan_start : length l ≡ n → end ≡ min to n → Scanned p l n from to end true from
  scan_start long ends =
      let e : from - from ≡ 0 = omega arith in
      record { long = long; low = omega arith; high = omega arith; ends = ends; is = rw e }

  pub scan_more : (ok : Bool) (i : ℕ) → Scanned p l n from to end ok i → i < end → Scanned p l n from to end (ok && p (get_or l i 0)) (i + 1)
  scan_more ok i s k =
      let e : i + 1 - from ≡ suc (i - from) = omega arith in
      let f : from + (i - from) ≡ i = omega arith in
      let d : i - from < length (drop from l) = simp length-drop (omega arith) in
      record {
        long = s.long;
        low = omega arith;
        high = omega arith;
        ends = s.ends;
        is = ap (λ (t : Bool). t && p (get_or l i 0)) s.is
            ∙ rw (e, take-suc (drop from l) (i - from) 0 d, all_append, get_or-drop from l (i - from) 0, f, and-true);
      }

  pub scan_end : (ok : Bool) (i : ℕ) → Scanned p l n from to end ok i → end ≤ i → ok ≡ all p (part l from to)
  scan_end ok i s k =
      s.is
      ∙ case
      (λ (t : to ≤ n). let q : i - from ≡ to - from = omega arith in ap (λ (k : ℕ). all p (take k (drop from l))) q)
      (λ (t : to ≤ n → ⊥).
      let u : length (drop from l) ≤ i - from = simp length-drop (omega arith) in
      let v : length (drop from l) ≤ to - from = simp length-drop (omega arith) in
      ap (all p) (take_all (i - from) (drop from l) u ∙ sym (take_all (to - from) (drop from l) v)))
      (dec_le to n)
