-- Where each number is at the end of a run, by what is known there (Steps): below the next to take every number from s + 1 on was taken, and from
-- there on an accepted number is held and one that was never accepted is missing. Assumes nothing.
use Prim.Native.Nat.{ℕ, ◌≤◌, ◌<◌, ◌^◌}
use mathlib.Core.Path.{sym, ◌∙◌}
use mathlib.Core.List.{List, []}
use mathlib.Core.Logic.{inl}
use mathlib.Core.Option.{Option}
use native.Mathlib.Decide.{dec_lt}
use native.Mathlib.Omega.{arith}
use borrow.Author.Tests.{le-ltb, le-leb, ltb-true}
use lib.Dec.{ltb}
use Rattle.terms.proofs.Laws.{case, and_left, and_right}
use Rattle.receiver_calls.proofs.Laws.{missing_told, told_missing, store_length}
use Rattle.receiver_runs.specs.Runs.{Run, history_of, end_of, all_in_width, begun}
use Rattle.receiver_runs.specs.History.{accepted_in, taken_in, first_of}
use Rattle.receiver_runs.specs.Delivered.{AcceptedWith, NeverAccepted, Taken, Held, HeldWith, Missing, highest_accepted, ExactlyOne, the_first, the_second, the_third}
use Rattle.receiver_runs.specs.Delivered.{NothingLost, InOrder, NeverAtFault}
use Rattle.receiver_runs.proofs.Pieces.{by_first, some_not_none, under_highest}
use Rattle.receiver_runs.proofs.Known.{Known, told_held, told_open}
use Rattle.receiver_runs.proofs.Steps.{At, start, steps}

abbrev pub next_of : Run → ℕ
next_of run = (end_of run).state.head.next.0

abbrev pub highest_in : Run → ℕ
highest_in run = (end_of run).state.head.highest.0

abbrev pub first : Run → ℕ → Option (List ℕ)
first run n = first_of n (accepted_in (history_of run))

module _ (run : Run) where
  -- what is known at the start,
  at_start : At run.s.0 run.slot (begun run.s run.slot run.store) []
  at_start =
      start run.s run.slot run.store run.started
      (ltb-true run.s.0 (2 ^ 32) (and_left (ltb run.s.0 (2 ^ 32)) (all_in_width run.calls) run.widths))

  -- and at the end
  pub at_end : At run.s.0 run.slot (end_of run) (history_of run)
  at_end =
      steps run.s.0 run.slot (begun run.s run.slot run.store) [] run.calls at_start
      (and_right (ltb run.s.0 (2 ^ 32)) (all_in_width run.calls) run.widths)

  pub known : Known run.s.0 run.slot (end_of run).state (end_of run).store (accepted_in (history_of run)) (taken_in (history_of run))
  known = at_end.known

  module _ (n : ℕ) where
    -- what is held is not below the next to take, and has the bytes of its first packet;
    held_is : (bytes : List ℕ) → HeldWith run n bytes → (next_of run ≤ n) × AcceptedWith run n bytes
    held_is bytes h = told_held (next_of run) (highest_in run) n (first run n) bytes (sym (known.stands n) ∙ h)

    -- what is missing is not below it either, and was never accepted;
    missing_never : Missing run n → (next_of run ≤ n) × NeverAccepted run n
    missing_never m =
        told_open (next_of run) (highest_in run) n (first run n) (inl (sym (known.stands n) ∙ missing_told (end_of run).state (end_of run).store n m))

    -- what was taken is below it
    pub taken_below : Taken run n → n < next_of run
    taken_below t = (known.taken_only n t.0 t.1).1

    pub accepted_held : (bytes : List ℕ) → next_of run ≤ n → AcceptedWith run n bytes → HeldWith run n bytes
    accepted_held bytes a e = known.stands n ∙ rw (le-ltb n (next_of run) a, e)

    module _ (low : run.s.0 < n) (high : n ≤ highest_accepted run) where
      never_missing : NeverAccepted run n → Missing run n
      never_missing e =
          case
          (λ (a : n < next_of run). let t = known.taken_all n low a in some_not_none t.2 e)
          (λ (a : n < next_of run → ⊥).
          told_missing (end_of run).state (end_of run).store n
          (known.stands n ∙ rw (le-ltb n (next_of run) (omega arith), e, le-leb n (highest_in run) (omega (arith, known.highest_is)))))
          (dec_lt n (next_of run))

      placed : ExactlyOne (Taken run n) (Held run n) (Missing run n)
      placed =
          case
          (λ (a : n < next_of run).
          let t = known.taken_all n low a in
          the_first (t.0, t.1) (λ h. let k = held_is h.0 h.1 in omega arith) (λ m. let k = missing_never m in omega arith))
          (λ (a : n < next_of run → ⊥).
          by_first (first run n)
          (λ e. the_third (λ t. a (taken_below t)) (λ h. some_not_none (held_is h.0 h.1).1 e) (never_missing e))
          (λ bytes e.
          the_second (λ t. a (taken_below t)) (bytes, accepted_held bytes (omega arith) e) (λ m. some_not_none e (missing_never m).1)))
          (dec_lt n (next_of run))

  -- 1. each number from s + 1 to the highest accepted is taken, held or, exactly if it was never accepted, missing, and one of them only
  pub nothing_lost : NothingLost run
  nothing_lost = record {
    one_place = placed;
    missing_is = λ n low high. (λ m. (missing_never n m).1, never_missing n low high);
    in_range = λ n bytes e. (known.above n bytes e, under_highest n run.s.0 (accepted_in (history_of run)) bytes e);
    held_first = λ n bytes h. (held_is n bytes h).1;
  }

  -- 2. takes come as s + 1, s + 2 and on, each with the bytes of the first accepted packet of that number
  pub in_order : InOrder run
  in_order = record {
    as_numbered = λ k piece e. (known.ordered k piece e).0;
    bytes_first = λ k piece e. (known.ordered k piece e).1;
    next_is = known.next_is;
  }

  -- 4. no call of a run is refused 11, and none 10, since the store keeps its length
  pub never_at_fault : NeverAtFault run
  never_at_fault = record {
    never_11_or_10 = at_end.fair;
    store_length = omega (
      arith,
      store_length (end_of run).state (end_of run).store known.sound,
      known.slot_is,
      store_length (begun run.s run.slot run.store).state run.store at_start.known.sound,
      at_start.known.slot_is,
    );
  }
