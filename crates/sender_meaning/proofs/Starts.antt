-- Start in the meaning's words: below the first number every number is gone, from it on none is made, and the state is sound. A refused start
-- leaves a state that every call refuses. Assumes nothing.
use Prim.Native.Nat.{ℕ, ◌≤◌, ◌<◌}
use mathlib.Core.Path.{◌≡◌, refl, ap}
use mathlib.Core.Bool.{false, not}
use mathlib.Core.List.{List, []}
use native.Mathlib.Decide.{dec_le}
use native.Mathlib.Omega.{arith}
use borrow.Author.Tests.{le-leb, lt-leb, eqb-false, not-false}
use lib.Dec.{leb, eqb}
use lib.ListN.{length, replicate, get_or-replicate}
use Rattle.terms.specs.declared.SeqNo.{SeqNo}
use Rattle.terms.specs.Ladder.{◌when◌else◌}
use Rattle.terms.proofs.Laws.{case, past}
use Rattle.terms.specs.Answers.{refusal, values}
use Rattle.timer.specs.Timer.{timing_fits}
use Rattle.sender_state.specs.Table.{◌!◌}
use Rattle.sender_state.specs.Rules.{timer_fits, rules, sizes_fit}
use Rattle.sender_state.specs.Start.{start_said, start_of, nothing_stored, unusable}
use Rattle.sender_state.specs.declared.Sender.{Sender}
use Rattle.sender_state.proofs.Facts.{Ruled, rules_of_lem}
use Rattle.sender_meaning.specs.Meaning.{unmade, gone, standing, Sound}
use Rattle.sender_meaning.proofs.Stands.{unmade_from, nowhere_gone}

empty : (i : ℕ) → i < 192 → replicate 192 0 ! i ≡ 0
empty i h = get_or-replicate 192 i 0 0 h

module _ (chunk count first : ℕ) (some : 1 ≤ first) where
  fresh_keeps : Ruled (nothing_stored chunk count first)
  unfolding timer_fits timing_fits
  fresh_keeps = record {
    distinct = λ i j h k o a b e. a (empty i h);
    low = λ i h o. absurd (o (empty i h));
    order = λ i j h k f w. absurd (omega (arith, empty i h));
    some = λ i h o. absurd (o (empty i h));
    next_some = some;
    shut = λ i h a. empty i h;
    no_number = λ i h z. empty i h;
    no_length = λ i h z. empty i h;
    no_time = λ i h z. empty i h;
    no_resent = λ i h z. empty i h;
    not_sent = λ i h w. empty i h;
    unresent = λ i h w. empty i h;
    once_or_more = λ i h. rw (empty i h) (omega arith);
    few = omega arith;
    past = λ i h. rw (empty i h) (omega arith);
    due = refl;
    window_some = omega arith;
    window_most = omega arith;
    timing = refl;
    long = λ i h o. absurd (o (empty i h));
    short = λ i h o. absurd (o (empty i h));
    clock_most = omega arith;
    known = λ i h. rw (empty i h) (omega arith);
  }

module _ (first : SeqNo) (chunk count : ℕ) (store : List ℕ) where
  -- a refused start leaves a state that no rule allows
  pub start_refused : (n : ℕ) → (start_of first chunk count (length store)).says ≡ refusal n → (start_of first chunk count (length store)).state ≡ unusable
  start_refused n e = rw e

  module _ (done : (start_of first chunk count (length store)).says ≡ values []) where
    pub start_done : (start_of first chunk count (length store)).state ≡ nothing_stored chunk count first.0
    start_done = rw done

    fresh_sound : first.0 < 4294967296 → Sound (nothing_stored chunk count first.0) store
    unfolding start_said
    fresh_sound width =
        let p10 = past 10 (not (sizes_fit chunk count (length store))) _ [] done in
        let p20 = past 20 (eqb first.0 0) (values []) [] p10.1 in
        let some = eqb-false first.0 0 p20.0 in
        record {
          numbers_long = refl;
          lengths_long = refl;
          sent_long = refl;
          resent_long = refl;
          marks_long = refl;
          keeps = rules_of_lem (nothing_stored chunk count first.0) (fresh_keeps chunk count first.0 (omega (arith, some)));
          fits = not-false (sizes_fit chunk count (length store)) p10.0;
          width = width;
        }

    pub start_sound : first.0 < 4294967296 → Sound (start_of first chunk count (length store)).state store
    start_sound width = rw start_done (fresh_sound width)

    -- below the first number every number is gone, and from it on none is made
    pub start_standing : first.0 < 4294967296 → (n : ℕ) → standing (start_of first chunk count (length store)).state store n ≡ (unmade when leb first.0 n else gone)
    start_standing width n =
        rw start_done
        (case
        (λ (a : first.0 ≤ n). rw (le-leb first.0 n a) (unmade_from (nothing_stored chunk count first.0) store n a))
        (λ (a : first.0 ≤ n → ⊥).
        rw (lt-leb first.0 n (omega arith)) (nowhere_gone (nothing_stored chunk count first.0) store (fresh_sound width) n (omega arith) (λ i h o e. o (empty i h))))
        (dec_le first.0 n))

    pub start_chunk : (start_of first chunk count (length store)).state.chunk ≡ chunk
    start_chunk = ap (λ (x : Sender). x.chunk) start_done

    pub start_count : (start_of first chunk count (length store)).state.count ≡ count
    start_count = ap (λ (x : Sender). x.count) start_done

    pub start_next : (start_of first chunk count (length store)).state.next.0 ≡ first.0
    start_next = ap (λ (x : Sender). x.next.0) start_done

pub unusable_broken : rules unusable ≡ false
unfolding rules
unusable_broken = refl
