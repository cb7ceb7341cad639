-- The numbers that bear a mark, ascending, as the code finds them: the lowest, then the lowest above it. Assumes nothing.
use Prim.Native.Nat.{ℕ, zero, suc, ◌+◌, ◌-◌, ◌≤◌, ◌<◌}
use mathlib.Core.Path.{◌≡◌, refl, sym, ◌∙◌, ap}
use mathlib.Core.Bool.{Bool, true, false}
use mathlib.Core.List.{List, [], ◌∷◌}
use native.Mathlib.Nat.{not-suc-le-zero, le_of_suc-le-suc}
use native.Mathlib.Decide.{ℕ_discrete, dec_lt}
use native.Mathlib.Omega.{arith}
use borrow.Author.Tests.{eq-eqb, ne_eqb, eqb-true}
use lib.ListN.{length}
use Rattle.std.specs.Prelude.{Some, None}
use Rattle.terms.proofs.Laws.{case}
use Rattle.sender_state.specs.Steps.{least_of, lowest_of, Tidy}
use Rattle.sender_state.specs.Table.{◌!◌, place_of}
use Rattle.sender_state.specs.declared.Sender.{Sender}
use Rattle.sender_state.proofs.Folds.{Found, least_at, least_there, lowest_is, lowest_not}
use Rattle.sender_state.proofs.Runs.{beyond, run_from, run_none, run_head}
use Rattle.sender_state.proofs.Facts.{Ruled}
use Rattle.sender_state.specs.Numbers.{run, marked_with}

-- where a number's place is inside, the number stands there; and no index below has it
pub place_is : (l : List ℕ) (n : ℕ) → place_of l n < length l → l ! place_of l n ≡ n
place_is [] n h = absurd (not-suc-le-zero h)
place_is (x ∷ l) n h =
    case
    (λ (e : x ≡ n). rw (eq-eqb x n e) e)
    (λ (o : x ≡ n → ⊥). let o' = ne_eqb x n o in let h' : suc (place_of l n) < suc (length l) = rw o' at h in rw o' (place_is l n (le_of_suc-le-suc h')))
    (ℕ_discrete x n)

pub place_first : (l : List ℕ) (n j : ℕ) → j < length l → l ! j ≡ n → place_of l n ≤ j
place_first [] n j h e = absurd (not-suc-le-zero h)
place_first (x ∷ l) n zero h e = rw (eq-eqb x n e) (omega arith)
place_first (x ∷ l) n (suc j) h e =
    case
    (λ (q : x ≡ n). rw (eq-eqb x n q) (omega arith))
    (λ (o : x ≡ n → ⊥). rw (ne_eqb x n o) (omega (arith, place_first l n j (le_of_suc-le-suc h) e)))
    (ℕ_discrete x n)

pub place_most : (l : List ℕ) (n : ℕ) → place_of l n ≤ length l
place_most [] n = omega arith
place_most (x ∷ l) n =
    case
    (λ (q : x ≡ n). rw (eq-eqb x n q) (omega arith))
    (λ (o : x ≡ n → ⊥). rw (ne_eqb x n o) (omega (arith, place_most l n)))
    (ℕ_discrete x n)

-- the lowest of the numbers that are left of a run, from `from` on
pub record First (p : ℕ → Bool) (next from low : ℕ) : Type 0 where
  pub more : run p from (next - from) ≡ low ∷ run p (low + 1) (next - (low + 1))
  pub high : from ≤ low
  pub below : low < next
  pub passes : p low ≡ true

module _ (numbers marks : List ℕ) (wanted next : ℕ) (tidy : Tidy numbers marks wanted next) where
  -- a number with the mark stands at its place
  pub stored : (j : ℕ) → j < 192 → marks ! j ≡ wanted → place_of numbers (numbers ! j) ≡ j
  stored j h e =
      let k = place_of numbers (numbers ! j) in
      let first = place_first numbers (numbers ! j) j (omega (arith, tidy.row)) refl in
      let is = place_is numbers (numbers ! j) (omega (arith, tidy.row)) in
      case
      (λ (q : k ≡ j). q)
      (λ (q : k ≡ j → ⊥). absurd (omega (arith, tidy.alone k j (omega arith) h q is, tidy.some j h e, is)))
      (ℕ_discrete k j)

  abbrev bears : ℕ → Bool
  bears n = marked_with wanted marks (place_of numbers n)

  -- a number with the mark stands within the table
  pub placed : (n : ℕ) → bears n ≡ true → place_of numbers n < 192
  placed n t =
      case
      (λ (q : place_of numbers n < 192). q)
      (λ (q : place_of numbers n < 192 → ⊥).
      absurd (omega (arith, beyond marks (place_of numbers n) 0 (omega (arith, tidy.table)), tidy.mark, eqb-true (marks ! place_of numbers n) wanted t)))
      (dec_lt (place_of numbers n) 192)

  -- and lies at or above the lowest
  pub found : (from n : ℕ) → from ≤ n → bears n ≡ true → least_of numbers marks wanted from 192 ≤ n
  found from n a t =
      let is = place_is numbers n (omega (arith, tidy.row, placed n t)) in
      omega (arith, least_at numbers marks wanted from 192 (place_of numbers n) (placed n t) (eqb-true _ _ t) (omega (arith, is)), is)

  -- and below the lowest no number bears it
  unseen : (from n : ℕ) → from ≤ n → n < least_of numbers marks wanted from 192 → bears n ≡ false
  unseen from n a b = go (bears n) refl where
    go : (t : Bool) → bears n ≡ t → bears n ≡ false
    go true e = absurd (omega (arith, found from n a e))
    go false e = e

  -- what a search finds is the first of what is left, and where it finds nothing, nothing is left
  pub ahead_some : (from low : ℕ) → from ≤ next → lowest_of numbers marks wanted from ≡ Some low → First (λ n. marked_with wanted marks (place_of numbers n)) next from low
  ahead_some from low a e =
      let l = lowest_is numbers marks wanted from low e in
      let f : Found numbers marks wanted from 192 low = rw l.0 at (least_there numbers marks wanted from 192 (omega (arith, l.0, l.1))) in
      let g : place_of numbers low ≡ f.place = ap (place_of numbers) (sym f.is) ∙ stored f.place f.inside f.marked in
      let below : low < next = omega (arith, tidy.low f.place f.inside f.marked, f.is) in
      let passes : bears low ≡ true = rw g (eq-eqb _ _ f.marked) in
      record {
        more =
            run_from bears from low next (omega (arith, f.high, f.is)) (omega arith) (λ m x y. unseen from m x (omega (arith, l.0)))
            ∙ run_head bears low next below passes;
        high = omega (arith, f.high, f.is);
        below = below;
        passes = passes;
      }

  pub ahead_none : (from : ℕ) → lowest_of numbers marks wanted from ≡ None → run (λ n. marked_with wanted marks (place_of numbers n)) from (next - from) ≡ []
  ahead_none from e = run_none bears from next (λ m x y. unseen from m x (omega (arith, tidy.width, lowest_not numbers marks wanted from e)))

-- a state that keeps the rules is tidy, for each mark that is not 0
module _ (s : Sender) (row : length s.numbers ≡ 192) (table : length s.marks ≡ 192) (width : s.next.0 ≤ 4294967295) where
  pub tidy : Ruled s → (wanted : ℕ) → 1 ≤ wanted → Tidy s.numbers s.marks wanted s.next.0
  tidy r wanted h = record {
    row = row;
    table = table;
    mark = h;
    alone = λ i j a b o e.
        case
        (λ (z : s.marks ! i ≡ 0). r.no_number i (omega arith) z)
        (λ (n : s.marks ! i ≡ 0 → ⊥).
        case
        (λ (z : s.marks ! j ≡ 0). e ∙ r.no_number j (omega arith) z)
        (λ (m : s.marks ! j ≡ 0 → ⊥). absurd (r.distinct i j (omega arith) (omega arith) o n m e))
        (ℕ_discrete (s.marks ! j) 0))
        (ℕ_discrete (s.marks ! i) 0);
    low = λ i a e. r.low i (omega arith) (λ z. omega arith);
    some = λ i a e. r.some i (omega arith) (λ z. omega arith);
    width = width;
  }
