-- The expired packets as the code finds them: a run from the lowest number in flight that ends at the first young one. Assumes nothing.
use Prim.Native.Nat.{ℕ, ◌+◌, ◌-◌, ◌≤◌, ◌<◌}
use mathlib.Core.Path.{◌≡◌, refl, sym, ◌∙◌, ap}
use mathlib.Core.Bool.{Bool}
use mathlib.Core.List.{List, [], ◌∷◌, ◌++◌, append_assoc, append-nil}
use native.Mathlib.Nat.{zero-add}
use native.Mathlib.Omega.{arith}
use borrow.Author.Tests.{lt-ltb, le-ltb}
use lib.ListN.{length, take, length-append}
use lib.Seq.{take_all, take_at}
use Rattle.std.specs.Prelude.{Some, None}
use Rattle.sender_state.specs.Steps.{lowest_of, Tidy}
use Rattle.sender_state.specs.Table.{◌!◌, place_of}
use Rattle.sender_state.specs.Numbers.{run, numbers_where, marked_with}
use Rattle.sender_resend.specs.Steps.{Expires}
use Rattle.sender_resend.specs.Resend.{run_while, aged, expired_in}
use Rattle.sender_state.proofs.Runs.{run_append}
use Rattle.sender_state.proofs.Search.{placed, ahead_some, ahead_none}

-- what stands before a common end
cancel : (a b t : List ℕ) → a ++ t ≡ b ++ t → a ≡ b
cancel a b t e =
    let l : length a ≡ length b = let n = simp length-append at (ap length e) in omega (arith, n) in
    sym (take_at a t (length a) refl) ∙ ap (take (length a)) e ∙ take_at b t (length a) (sym l)

module _ (numbers sent marks : List ℕ) (next clock rto window : ℕ) where
  abbrev flies : ℕ → Bool
  flies n = marked_with 2 marks (place_of numbers n)

  abbrev old : ℕ → Bool
  old = aged numbers sent clock rto

  -- so far the numbers in flight below end are old, and there are count of them
  pub record Expiring (count end : ℕ) : Type 0 where
    pub inside : end ≤ next
    pub counts : count ≡ length (run flies 0 end)
    pub goes : (x : List ℕ) → run_while old (run flies 0 end ++ x) ≡ run flies 0 end ++ run_while old x

  pub expire_start : Expiring 0 0
  unfolding run
  expire_start = record { inside = omega arith; counts = refl; goes = λ x. refl }

  module _ (count end : ℕ) (r : Expiring count end) where
    -- the numbers in flight: those below end, and the rest
    whole : numbers_where numbers next (marked_with 2 marks) ≡ run flies 0 end ++ run flies end (next - end)
    whole =
        let e : next ≡ end + (next - end) = omega (arith, r.inside) in
        ap (run flies 0) e ∙ run_append flies end 0 (next - end) ∙ ap (λ (k : ℕ). run flies 0 end ++ run flies k (next - end)) (zero-add end)

    -- the run ends where the rest has no old front, or the window is full
    expire_stop : count ≤ window → run_while old (run flies end (next - end)) ≡ [] → Expires numbers sent marks next clock rto window (record { count = count; end = end })
    expire_stop few e =
        let is : run flies 0 end ≡ expired_in numbers sent marks next clock rto window =
        sym (ap (λ (l : List ℕ). take window (run_while old l)) whole ∙ ap (take window) (r.goes (run flies end (next - end)) ∙ rw e (append-nil (run flies 0 end)))
        ∙ take_all window (run flies 0 end) (omega (arith, r.counts))) in
        record { below = is; counts = r.counts ∙ ap length is }

    pub expire_full : count ≡ window → Expires numbers sent marks next clock rto window (record { count = window; end = end })
    expire_full h =
        let is : run flies 0 end ≡ expired_in numbers sent marks next clock rto window =
        sym (ap (λ (l : List ℕ). take window (run_while old l)) whole ∙ ap (take window) (r.goes (run flies end (next - end)))
        ∙ take_at (run flies 0 end) (run_while old (run flies end (next - end))) window (omega (arith, r.counts, h))) in
        record { below = is; counts = sym h ∙ r.counts ∙ ap length is }

    module _ (tidy : Tidy numbers marks 2 next) where
      pub expire_none : count ≤ window → lowest_of numbers marks 2 end ≡ None → Expires numbers sent marks next clock rto window (record { count = count; end = end })
      expire_none few e = expire_stop few (rw (ahead_none numbers marks 2 next tidy end e))

      module _ (n : ℕ) (e : lowest_of numbers marks 2 end ≡ Some n) where
        pub expire_place : (place_of numbers n < 192) × (n < next)
        expire_place = let f = ahead_some numbers marks 2 next tidy end n r.inside e in (placed numbers marks 2 next tidy n f.passes, f.below)

        pub expire_young : count ≤ window → clock - (sent ! place_of numbers n) ≤ rto → Expires numbers sent marks next clock rto window (record { count = count; end = end })
        expire_young few h =
            let f = ahead_some numbers marks 2 next tidy end n r.inside e in
            expire_stop few (rw (f.more, le-ltb rto (clock - (sent ! place_of numbers n)) h))

        pub expire_more : rto < clock - (sent ! place_of numbers n) → Expiring (count + 1) (n + 1)
        expire_more h =
            let f = ahead_some numbers marks 2 next tidy end n r.inside e in
            let tail = run flies (n + 1) (next - (n + 1)) in
            let split : run flies end (next - end) ≡ run flies end (n + 1 - end) ++ tail =
            let a : next - end ≡ (n + 1 - end) + (next - (n + 1)) = omega (arith, f.high, f.below) in
            let b : end + (n + 1 - end) ≡ n + 1 = omega (arith, f.high) in
            ap (run flies end) a ∙ run_append flies (n + 1 - end) end (next - (n + 1)) ∙ ap (λ (k : ℕ). run flies end (n + 1 - end) ++ run flies k (next - (n + 1))) b in
            let one : run flies end (n + 1 - end) ≡ n ∷ [] = cancel (run flies end (n + 1 - end)) (n ∷ []) tail (sym split ∙ f.more) in
            let is : run flies 0 (n + 1) ≡ run flies 0 end ++ (n ∷ []) =
            let a : n + 1 ≡ end + (n + 1 - end) = omega (arith, f.high) in
            ap (run flies 0) a ∙ run_append flies end 0 (n + 1 - end) ∙ ap (λ (k : ℕ). run flies 0 end ++ run flies k (n + 1 - end)) (zero-add end) ∙ ap (λ (l : List ℕ). run flies 0 end ++ l) one in
            record {
              inside = omega (arith, f.below);
              counts = let a = simp length-append at (ap length is) in omega (arith, a, r.counts);
              goes = λ x.
                  rw (is, append_assoc (run flies 0 end) (n ∷ []) x, append_assoc (run flies 0 end) (n ∷ []) (run_while old x))
                  (r.goes (n ∷ x) ∙ rw (lt-ltb rto (clock - (sent ! place_of numbers n)) h));
            }
