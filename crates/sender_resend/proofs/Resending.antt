-- What resend leaves, once the expired packets are found. Assumes nothing.
use Prim.Native.Nat.{ℕ, ◌+◌, ◌-◌, ◌≤◌, ◌<◌}
use mathlib.Core.Path.{◌≡◌, refl, sym, ◌∙◌, ap}
use mathlib.Core.Bool.{Bool, true, false, ◌||◌, not, or-true, true≢false}
use mathlib.Core.List.{List, [], ◌∷◌}
use native.Mathlib.Nat.{not-suc-le-zero}
use native.Mathlib.Decide.{ℕ_discrete, dec_lt}
use native.Mathlib.Omega.{arith}
use borrow.Author.Tests.{eq-eqb, ne_eqb, eqb-true, lt-ltb, le-ltb, lt-leb, not-false}
use lib.Dec.{eqb}
use lib.ListN.{length}
use lib.Seq.{take-nil}
use Rattle.terms.proofs.Laws.{case, or_left, past as passed-rung}
use Rattle.terms.specs.Answers.{values}
use Rattle.timer.specs.Timer.{rto_of}
use Rattle.sender_state.specs.Table.{◌!◌, place_of}
use Rattle.sender_state.specs.Rules.{rules, counts_fit, clock_wrong}
use Rattle.sender_state.specs.Answers.{Outcome}
use Rattle.sender_state.specs.declared.Sender.{Sender}
use Rattle.std.specs.Prelude.{Option, Some, None}
use Rattle.std.specs.Option.{is_some}
use Rattle.sender_state.specs.Numbers.{run, marked_with, in_flight}
use Rattle.sender_resend.specs.Steps.{flying_below}
use Rattle.sender_state.specs.Steps.{lowest_of, Tidy}
use Rattle.sender_resend.specs.Resend.{resend_refusal, expired_of, is_empty, is_in, timed_at, resent_by, resend_leaves, resend_count}
use Rattle.sender_state.proofs.Runs.{beyond, in_run, not_in}
use Rattle.sender_state.proofs.Search.{place_is, stored, ahead_some, ahead_none}
use Rattle.sender_state.proofs.Facts.{clock_fair}

-- of the numbers in flight below end, those of the places in flight with numbers below end
module _ (numbers marks : List ℕ) (next end : ℕ) (tidy : Tidy numbers marks 2 next) where
  abbrev flies : ℕ → Bool
  flies n = marked_with 2 marks (place_of numbers n)

  inside : (i : ℕ) → marks ! i ≡ 2 → i < 192
  inside i e = case (λ (q : i < 192). q) (λ (q : i < 192 → ⊥). absurd (omega (arith, beyond marks i 0 (omega (arith, tidy.table)), e))) (dec_lt i 192)

  grounded : (i : ℕ) → (marks ! i ≡ 2 → ⊥) → flies (numbers ! i) ≡ true → ⊥
  grounded i o t =
      let k = place_of numbers (numbers ! i) in
      let e = eqb-true (marks ! k) 2 t in
      let b = inside k e in
      let same = place_is numbers (numbers ! i) (omega (arith, tidy.row)) in
      let some = tidy.some k b e in
      case
      (λ (q : i < 192). omega (arith, tidy.alone k i b q (λ z. o (sym (ap (λ (m : ℕ). marks ! m) z) ∙ e)) same))
      (λ (q : i < 192 → ⊥). omega (arith, beyond numbers i 0 (omega (arith, tidy.row)), same))
      (dec_lt i 192)

  pub same_places : (i : ℕ) → is_in (run flies 0 end) (numbers ! i) ≡ flying_below numbers marks end i
  same_places i =
      case
      (λ (e : marks ! i ≡ 2).
      let t : flies (numbers ! i) ≡ true = rw (stored numbers marks 2 next tidy i (inside i e) e) (eq-eqb _ _ e) in
      case
      (λ (q : numbers ! i < end). rw (eq-eqb (marks ! i) 2 e, lt-ltb (numbers ! i) end q, in_run flies (numbers ! i) end 0 (omega arith) (omega arith) t))
      (λ (q : numbers ! i < end → ⊥).
      let b : end ≤ numbers ! i = omega arith in
      rw (eq-eqb (marks ! i) 2 e, le-ltb (numbers ! i) end b, not_in flies (numbers ! i) end 0 (λ _ h. omega arith)))
      (dec_lt (numbers ! i) end))
      (λ (o : marks ! i ≡ 2 → ⊥). rw (ne_eqb (marks ! i) 2 o, not_in flies (numbers ! i) end 0 (λ t _. grounded i o t)))
      (ℕ_discrete (marks ! i) 2)

  pub again_same : (l : List ℕ) → run flies 0 end ≡ l → flying_below numbers marks end ≡ (λ i. is_in l (numbers ! i))
  again_same l e = λ k i. (sym (same_places i) ∙ ap (λ (x : List ℕ). is_in x (numbers ! i)) e) k

-- what holds where nothing keeps resend from being done
pub resend_fair : (s : Sender) (clock : ℕ) → values [] ≡ resend_refusal s clock → (rules s ≡ true) × (s.clock ≤ clock) × (clock ≤ 1000000000000000)
unfolding resend_refusal
resend_fair s clock done =
    let p11 = passed-rung 11 (not (rules s)) _ [] (sym done) in
    let p10 = passed-rung 10 (not (counts_fit s.chunk s.count)) _ [] p11.1 in
    let p24 = passed-rung 24 (clock_wrong s.clock clock) _ [] p10.1 in
    let fair = clock_fair s.clock clock p24.0 in
    (not-false (rules s) p11.0, fair.0, fair.1)

nothing : (l : List ℕ) → length l ≤ 0 → l ≡ []
nothing [] h = refl
nothing (x ∷ l) h = absurd (not-suc-le-zero h)

-- what the search for the lowest number in flight tells
module _ (s : Sender) (tidy : Tidy s.numbers s.marks 2 s.next.0) where
  all : run (λ n. marked_with 2 s.marks (place_of s.numbers n)) 0 (s.next.0 - 0) ≡ in_flight s
  all = let z : s.next.0 - 0 ≡ s.next.0 = omega arith in rw z

  pub none_flies : is_some (lowest_of s.numbers s.marks 2 0) ≡ false → length (in_flight s) ≤ 0
  none_flies t = go (lowest_of s.numbers s.marks 2 0) refl t where
    go : (o : Option ℕ) → lowest_of s.numbers s.marks 2 0 ≡ o → is_some o ≡ false → length (in_flight s) ≤ 0
    go None e t = rw (sym all ∙ ahead_none s.numbers s.marks 2 s.next.0 tidy 0 e) (omega arith)
    go (Some n) e t = absurd (true≢false t)

  pub some_flies : is_some (lowest_of s.numbers s.marks 2 0) ≡ true → 0 < length (in_flight s)
  some_flies t = go (lowest_of s.numbers s.marks 2 0) refl t where
    go : (o : Option ℕ) → lowest_of s.numbers s.marks 2 0 ≡ o → is_some o ≡ true → 0 < length (in_flight s)
    go None e t = absurd (true≢false (sym t))
    go (Some n) e t = let f = ahead_some s.numbers s.marks 2 s.next.0 tidy 0 n (omega arith) e in rw (sym all ∙ f.more) (omega arith)

-- the three ways
module _ (s : Sender) (clock : ℕ) where
  abbrev pub Left : Bool → Outcome
  Left path = record { says = values (resend_count s clock path ∷ []); state = resend_leaves s clock path; lent = [] }

  -- nothing in flight
  pub left_idle : (path : Bool) → length (in_flight s) ≤ 0 → (state : Sender) → state ≡ timed_at s None clock
      → ◌≡◌ {A = Outcome} (record { says = values (0 ∷ []); state = state; lent = [] }) (Left path)
  left_idle true h state e = let n = nothing (in_flight s) h in rw (e, n) (rw (take-nil {A = ℕ} s.window))
  left_idle false h state e = let n = nothing (in_flight s) h in rw (e, n)

  module _ (some : 0 < length (in_flight s)) where
    -- none expired, or no new path
    pub left_later : (count : ℕ) → count ≡ length (expired_of s clock) → (path : Bool) → (eqb count 0 || not path) ≡ true → (state : Sender)
        → state ≡ timed_at s (Some (clock + rto_of s.timing)) clock → ◌≡◌ {A = Outcome} (record { says = values (0 ∷ []); state = state; lent = [] }) (Left path)
    left_later count n true t state e =
        let z : length (expired_of s clock) ≡ 0 = sym n ∙ eqb-true count 0 (or_left (eqb count 0) false refl t) in
        rw (e, lt-leb (length (in_flight s)) 0 some, z)
    left_later count n false t state e = rw (e, lt-leb (length (in_flight s)) 0 some, or-true (is_empty (expired_of s clock)))

    -- the expired go out again
    pub left_again : 0 < length (expired_of s clock) → (count : ℕ) → count ≡ length (expired_of s clock) → (again : ℕ → Bool) → again ≡ (λ i. is_in (expired_of s clock) (s.numbers ! i))
        → (state : Sender) → state ≡ resent_by s clock again
        → ◌≡◌ {A = Outcome} (record { says = values (count ∷ []); state = state; lent = [] }) (Left true)
    left_again h count n again a state e =
        rw (e, n, lt-leb (length (in_flight s)) 0 some, lt-leb (length (expired_of s clock)) 0 h)
        (ap (λ (q : ℕ → Bool). record { says = values (length (expired_of s clock) ∷ []); state = resent_by s clock q; lent = [] }) a)
