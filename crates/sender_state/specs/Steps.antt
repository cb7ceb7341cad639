-- What the code's own searches promise, and what they ask of the table. No promise of a call that a host makes needs this page.
use Rattle.std.specs.Prelude.{ℕ, Bool, zero, suc, ◌≤◌, ◌<◌, min, ◌≡◌, not, List, ltb, eqb, length, Option, Some, None}
use Rattle.terms.specs.Ladder.{◌when◌else◌}
use Rattle.sender_state.specs.Table.{◌!◌, one_if}

-- the lowest number from `from` on whose mark is the wanted one, among the first n places; 4,294,967,295 where there is none
unfoldable pub candidate_of : ℕ → ℕ → ℕ → ℕ → ℕ
candidate_of number mark wanted from =
    4294967295 when not (eqb mark wanted) else
    4294967295 when ltb number from else
    number

unfoldable pub least_of : List ℕ → List ℕ → ℕ → ℕ → ℕ → ℕ
least_of numbers marks wanted from zero = 4294967295
least_of numbers marks wanted from (suc n) = min (least_of numbers marks wanted from n) (candidate_of (numbers ! n) (marks ! n) wanted from)

-- among all of them: a number, or none
unfoldable pub lowest_of : List ℕ → List ℕ → ℕ → ℕ → Option ℕ
lowest_of numbers marks wanted from =
    let low = least_of numbers marks wanted from 192 in
    None when eqb low 4294967295 else
    Some low

-- what a search by mark asks of the table: no number but 0 stands twice, none reaches next, and what bears the mark has a number
pub record Tidy (numbers marks : List ℕ) (wanted next : ℕ) : Type 0 where
  pub row : length numbers ≡ 192
  pub table : length marks ≡ 192
  pub mark : 1 ≤ wanted
  pub alone : (i j : ℕ) → i < 192 → j < 192 → (i ≡ j → ⊥) → numbers ! i ≡ numbers ! j → numbers ! i ≡ 0
  pub low : (i : ℕ) → i < 192 → marks ! i ≡ wanted → numbers ! i < next
  pub some : (i : ℕ) → i < 192 → marks ! i ≡ wanted → 1 ≤ numbers ! i
  pub width : next ≤ 4294967295

-- flags of the places that pass: 1 there, and 0 elsewhere
pub record Flags (p : ℕ → Bool) (flags : List ℕ) : Type 0 where
  pub long : length flags ≡ 192
  pub at_place : (i : ℕ) → i < 192 → flags ! i ≡ one_if (p i)
