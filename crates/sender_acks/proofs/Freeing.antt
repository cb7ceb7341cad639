-- What acks finds in a valid state, and what it leaves. Assumes nothing.
use Prim.Native.Nat.{ℕ, ◌≤◌}
use mathlib.Core.Path.{◌≡◌, sym, ◌∙◌, ap}
use mathlib.Core.Bool.{Bool, true, false, not}
use mathlib.Core.List.{List, [], ◌∷◌}
use native.Mathlib.Omega.{arith}
use borrow.Author.Tests.{eq-eqb, eqb-true, not-false}
use lib.ListN.{length}
use Rattle.terms.proofs.Laws.{and_left, past as passed-rung}
use Rattle.terms.specs.Answers.{values}
use Rattle.sender_state.specs.Table.{◌!◌, is_flying}
use Rattle.sender_state.specs.Answers.{Outcome}
use Rattle.sender_state.specs.Rules.{rules}
use Rattle.sender_state.specs.declared.Sender.{Sender}
use Rattle.sender_state.proofs.Facts.{Ruled}
use Rattle.sender_state.specs.Numbers.{numbers_where, marked_with}
use Rattle.sender_acks.specs.Steps.{Measures}
use Rattle.sender_state.specs.Steps.{Flags, Tidy}
use Rattle.sender_acks.specs.Acks.{acked_at, acked_of, acks_refusal, measured_by, timed_by, grown_by, freed_by, acks_leave}
use Rattle.sender_acks.specs.declared.Measured.{Measured}
use Rattle.sender_state.proofs.Runs.{beyond}
use Rattle.sender_state.proofs.Search.{tidy}
use Rattle.sender_state.proofs.Replaced.{flags_same}

-- past the table nothing is acknowledged
acked_out_lem : (numbers marks : List ℕ) (through : ℕ) (nacks : List ℕ) → length marks ≡ 192 → (i : ℕ) → 192 ≤ i → acked_at numbers marks through nacks i ≡ false
acked_out_lem numbers marks through nacks h i a = rw (beyond marks i 0 (omega arith))

module _ (s : Sender) (row : length s.numbers ≡ 192) (table : length s.marks ≡ 192) (width : s.next.0 ≤ 4294967295) (through : ℕ) (nacks flags : List ℕ)
    (made : Flags (acked_at s.numbers s.marks through nacks) flags) where
  same : marked_with 1 flags ≡ acked_at s.numbers s.marks through nacks
  same = flags_same (acked_at s.numbers s.marks through nacks) flags made (acked_out_lem s.numbers s.marks through nacks table)

  -- a flagged place is in flight
  flagged : (i : ℕ) → flags ! i ≡ 1 → s.marks ! i ≡ 2
  flagged i e =
      eqb-true _ _
      (and_left (is_flying (s.marks ! i)) _
      (sym (ap (λ (p : ℕ → Bool). p i) same) ∙ eq-eqb _ _ e))

  pub tidy_flags : Ruled s → Tidy s.numbers flags 1 s.next.0
  tidy_flags r =
      let t = tidy s row table width r 2 (omega arith) in
      record {
        row = row;
        table = made.long;
        mark = omega arith;
        alone = t.alone;
        low = λ i a e. t.low i a (flagged i e);
        some = λ i a e. t.some i a (flagged i e);
        width = width;
      }

  pub acks_made : (clock : ℕ) (m : Measured)
      → Measures (measured_by s.numbers s.sent s.resent clock) s.timing s.window (numbers_where s.numbers s.next.0 (marked_with 1 flags)) m
      → (state : Sender) → state ≡ freed_by s m.timing m.window clock (marked_with 1 flags)
      → ◌≡◌ {A = Outcome} (record { says = values (m.count ∷ []); state = state; lent = [] })
      (record { says = values (length (acked_of s through nacks) ∷ []); state = acks_leave s through nacks clock; lent = [] })
  acks_made clock m f state e = rw (e, f.times, f.grows, f.counts) (ap by same) where
    by : (ℕ → Bool) → Outcome
    by gone =
        let l = numbers_where s.numbers s.next.0 gone in
        record {
          says = values (length l ∷ []);
          state = freed_by s (timed_by (measured_by s.numbers s.sent s.resent clock) s.timing l) (grown_by s.window l) clock gone;
          lent = [];
        }

-- what nothing keeps from being done keeps the rules
pub acks_rules : (s : Sender) (through nack_count clock : ℕ) → values [] ≡ acks_refusal s through nack_count clock → rules s ≡ true
unfolding acks_refusal
acks_rules s through nack_count clock done = not-false (rules s) (passed-rung 11 (not (rules s)) _ [] (sym done)).0
