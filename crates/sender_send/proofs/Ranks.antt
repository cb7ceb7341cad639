-- The number at a rank of those that bear a mark, as the code walks to it. Assumes nothing.
use Prim.Native.Nat.{ℕ, zero, suc, ◌+◌, ◌-◌, ◌≤◌, ◌<◌}
use mathlib.Core.Path.{◌≡◌, refl, sym, ◌∙◌, ap}
use mathlib.Core.Bool.{true}
use mathlib.Core.List.{List, [], ◌∷◌}
use native.Mathlib.Decide.{dec_lt}
use native.Mathlib.Omega.{arith}
use borrow.Author.Tests.{eqb-true}
use lib.ListN.{length, drop, length-drop}
use lib.Seq.{drop-drop}
use Rattle.std.specs.Prelude.{Option, Some, None}
use Rattle.std.specs.List.{slice_get}
use Rattle.std.proofs.lemmas.Option.{none-some, slice_get_within, slice_get_past, slice_get-get_or, get_or_from_slice_get}
use Rattle.terms.proofs.Laws.{case}
use Rattle.sender_state.specs.Numbers.{run, numbers_where, marked_with}
use Rattle.sender_state.specs.Rules.{rules}
use Rattle.sender_state.specs.Steps.{lowest_of, Tidy}
use Rattle.sender_state.specs.Table.{◌!◌, place_of}
use Rattle.sender_state.specs.declared.Sender.{Sender}
use Rattle.sender_state.proofs.Facts.{ruled, packet_in_lem}
use Rattle.sender_state.proofs.Runs.{beyond, run_passes}
use Rattle.sender_state.proofs.Search.{place_is, ahead_some, ahead_none}
use Rattle.sender_send.specs.Steps.{RanksAt}

get_here : (l : List ℕ) (k : ℕ) → slice_get (drop k l) 0 ≡ slice_get l k
get_here [] zero = refl
get_here [] (suc k) = refl
get_here (x ∷ l) zero = refl
get_here (x ∷ l) (suc k) = get_here l k

-- the walk up to a rank: from rank k on, the numbers from `from` on are left
module _ (numbers marks : List ℕ) (wanted next : ℕ) where
  abbrev all : List ℕ
  all = numbers_where numbers next (marked_with wanted marks)

  pub record Walking (k from : ℕ) : Type 0 where
    pub inside : from ≤ next
    pub rest : drop k all ≡ run (λ n. marked_with wanted marks (place_of numbers n)) from (next - from)

  module _ (tidy : Tidy numbers marks wanted next) (k from : ℕ) (w : Walking k from) where
    pub walk_more : (n : ℕ) → lowest_of numbers marks wanted from ≡ Some n → Walking (k + 1) (n + 1)
    walk_more n e =
        let f = ahead_some numbers marks wanted next tidy from n w.inside e in
        record { inside = omega (arith, f.below); rest = sym (drop-drop 1 k all) ∙ rw (w.rest, f.more) }

    pub walk_none : (rank : ℕ) → k ≤ rank → lowest_of numbers marks wanted from ≡ None → None ≡ slice_get all rank
    walk_none rank h e =
        let z : drop k all ≡ [] = w.rest ∙ ahead_none numbers marks wanted next tidy from e in
        let l = length-drop k all in
        let n = ap length z in
        sym (slice_get_past all rank (omega arith))

    pub walk_end : (rank : ℕ) → k ≡ rank → lowest_of numbers marks wanted from ≡ slice_get all rank
    walk_end rank h = rw (← h) (go (lowest_of numbers marks wanted from) refl) where
      go : (o : Option ℕ) → lowest_of numbers marks wanted from ≡ o → lowest_of numbers marks wanted from ≡ slice_get all k
      go None e = e ∙ walk_none k (omega arith) e
      go (Some n) e =
          let f = ahead_some numbers marks wanted next tidy from n w.inside e in
          e ∙ sym (sym (get_here all k) ∙ rw (w.rest, f.more))

module _ (s : Sender) (row : length s.numbers ≡ 192) (table : length s.marks ≡ 192) (width : s.next.0 ≤ 4294967295) where
  -- what is known of the number at a rank of those that bear a mark
  pub record Ranked (wanted rank number : ℕ) : Type 0 where
    pub inside : rank < length (numbers_where s.numbers s.next.0 (marked_with wanted s.marks))
    pub is : number ≡ numbers_where s.numbers s.next.0 (marked_with wanted s.marks) ! rank
    pub place : place_of s.numbers number < 192
    pub marked : s.marks ! place_of s.numbers number ≡ wanted
    pub has : s.numbers ! place_of s.numbers number ≡ number

  -- a rank that is inside has its number at a place
  pub ranked_of : (wanted rank : ℕ) → 1 ≤ wanted → rank < length (numbers_where s.numbers s.next.0 (marked_with wanted s.marks))
      → Ranked wanted rank (numbers_where s.numbers s.next.0 (marked_with wanted s.marks) ! rank)
  ranked_of wanted rank h q =
      let number = numbers_where s.numbers s.next.0 (marked_with wanted s.marks) ! rank in
      let m = eqb-true (s.marks ! place_of s.numbers number) wanted (run_passes (λ m. marked_with wanted s.marks (place_of s.numbers m)) s.next.0 0 rank q) in
      let low : place_of s.numbers number < 192 =
      case
      (λ (b : place_of s.numbers number < 192). b)
      (λ (b : place_of s.numbers number < 192 → ⊥). absurd (omega (arith, beyond s.marks (place_of s.numbers number) 0 (omega arith), m)))
      (dec_lt (place_of s.numbers number) 192) in
      record { inside = q; is = refl; place = low; marked = m; has = place_is s.numbers number (omega arith) }

  -- and so has what the walk finds
  pub ranks_at : rules s ≡ true → (wanted rank number place : ℕ) → 1 ≤ wanted → slice_get (numbers_where s.numbers s.next.0 (marked_with wanted s.marks)) rank ≡ Some number
      → place ≡ place_of s.numbers number → RanksAt s wanted rank (record { number = record { 0 = number }; place = place; size = s.lengths ! place })
  ranks_at keeps wanted rank number place h e f =
      let l = numbers_where s.numbers s.next.0 (marked_with wanted s.marks) in
      let q = slice_get_within l rank number e in
      let is : l ! rank ≡ number = get_or_from_slice_get l rank number 0 e in
      let r = ranked_of wanted rank h q in
      let low : place < 192 = rw (f, ← is) r.place in
      let marked : s.marks ! place ≡ wanted = rw (f, ← is) r.marked in
      record {
        inside = q;
        stands = record {
          number_is = sym is;
          place_is = rw (is, f);
          size_is = rw (is, f);
          low = low;
          stored = λ n fits. packet_in_lem s table (ruled s keeps) n place fits low (λ z. omega arith);
        };
      }

-- none is at a rank from the length on
pub ranks_none : (l : List ℕ) (rank : ℕ) → slice_get l rank ≡ None → length l ≤ rank
ranks_none l rank e =
    case
    (λ (q : rank < length l). let z = slice_get-get_or l rank 0 q in absurd (none-some (l ! rank) (sym e ∙ z)))
    (λ (q : rank < length l → ⊥). omega arith)
    (dec_lt rank (length l))
