-- Any two results that a promise allows are equal: answer, state and every lent byte. Assumes nothing.
use Prim.Native.Nat.{ℕ}
use mathlib.Core.Path.{◌≡◌, ap}
use mathlib.Core.Bool.{Bool}
use mathlib.Core.List.{List}
use lib.ListN.{length}
use Rattle.terms.specs.declared.SeqNo.{SeqNo}
use Rattle.terms.proofs.Determined.{determined, said_one}
use Rattle.terms.specs.Lists.{all}
use Rattle.sender_state.specs.Steps.{lowest_of}
use Rattle.sender_state.specs.Numbers.{marked_with}
use Rattle.sender_state.specs.Table.{differs, count_of, place_of, replaced}
use Rattle.sender_state.specs.Rules.{counts_fit, sizes_fit, clock_wrong}
use Rattle.sender_state.specs.Answers.{Outcome}
use Rattle.sender_state.specs.Start.{start_of, started}
use Rattle.sender_state.specs.declared.Started.{Started}
use Rattle.std.specs.Prelude.{Option}

pub start_determined : (first : SeqNo) (chunk count : ℕ) (store : List ℕ) (a b : Started) → started a ≡ start_of first chunk count (length store)
    → started b ≡ start_of first chunk count (length store) → a ≡ b
start_determined first chunk count store a b p q =
    let e = determined p q in
    λ k. record { answer = said_one a.answer b.answer (ap (λ (o : Outcome). o.says) e) k; state = (e k).state }

pub counts_fit_determined : (chunk count : ℕ) (a b : Bool) → a ≡ counts_fit chunk count → b ≡ counts_fit chunk count → a ≡ b
counts_fit_determined chunk count a b p q = determined p q

pub sizes_fit_determined : (chunk count store_length : ℕ) (a b : Bool) → a ≡ sizes_fit chunk count store_length → b ≡ sizes_fit chunk count store_length → a ≡ b
sizes_fit_determined chunk count store_length a b p q = determined p q

pub count_of_determined : (marks : List ℕ) (wanted a b : ℕ) → a ≡ count_of wanted marks → b ≡ count_of wanted marks → a ≡ b
count_of_determined marks wanted a b p q = determined p q

pub place_of_determined : (numbers : List ℕ) (number a b : ℕ) → a ≡ place_of numbers number → b ≡ place_of numbers number → a ≡ b
place_of_determined numbers number a b p q = determined p q

pub least_determined : (numbers marks : List ℕ) (wanted from : ℕ) (a b : Option ℕ) → a ≡ lowest_of numbers marks wanted from → b ≡ lowest_of numbers marks wanted from → a ≡ b
least_determined numbers marks wanted from a b p q = determined p q

pub absent_determined : (list : List ℕ) (x : ℕ) (a b : Bool) → a ≡ all (differs x) list → b ≡ all (differs x) list → a ≡ b
absent_determined list x a b p q = determined p q

pub clock_wrong_determined : (last clock : ℕ) (a b : Bool) → a ≡ clock_wrong last clock → b ≡ clock_wrong last clock → a ≡ b
clock_wrong_determined last clock a b p q = determined p q

pub replace_determined : {A : Type 0} (list : List A) (flags : List ℕ) (value : A) (a b : List A) → a ≡ replaced value (marked_with 1 flags) 0 list → b ≡ replaced value (marked_with 1 flags) 0 list → a ≡ b
replace_determined list flags value a b p q = determined p q
