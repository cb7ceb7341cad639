-- Nothing is forgotten that was not received: a number that the sender has dropped was named by acks after it was sent; what acks named was accepted; the bytes first accepted
-- under a number are those submitted under it; and what was accepted is taken or held. Assumes nothing.
use Prim.Native.Nat.{ℕ, ◌<◌}
use mathlib.Core.Path.{◌≡◌, refl, sym, ◌∙◌}
use mathlib.Core.Bool.{true, true≢false}
use mathlib.Core.List.{List, [], ◌∷◌}
use mathlib.Core.Logic.{inl, inr}
use mathlib.Core.Option.{Option}
use native.Mathlib.Decide.{dec_lt}
use native.Mathlib.Omega.{arith}
use Rattle.terms.proofs.Laws.{case, or_of}
use Rattle.sender_meaning.specs.Meaning.{unmade, gone}
use Rattle.sender_meaning.proofs.Counts.{by_bool}
use Rattle.receiver_runs.proofs.Places.{next_of, known, accepted_held}
use Rattle.sender_runs.specs.Runs as S
use Rattle.sender_runs.specs.Remembers.{sent_by, named_by, named_in, acked_in, made}
use Rattle.sender_runs.proofs.Remembering.{remembers, gone_acked}
use Rattle.stream_joined.specs.Moves.{Ends, Moves, sender_history}
use Rattle.stream_joined.specs.Wire.{Joined}
use Rattle.stream_joined.specs.Forgotten.{Dropped, Received, NothingForgotten}
use Rattle.stream_joined.proofs.Halves.{sender_run, receiver_run}
use Rattle.stream_joined.proofs.AsMade.{Both, neither, both, made_reads}
use Rattle.stream_joined.proofs.Arrivals.{accepted_submitted}
use Rattle.stream_joined.proofs.Claimed.{Came, named_came}

-- acks that came after a send are acks
acked_named : (n : ℕ) (l : List S.Event) → acked_in n l ≡ true → named_in n l ≡ true
acked_named n [] t = absurd (true≢false (sym t))
acked_named n (e ∷ l) t =
    or_of (named_by n e.asked e.answered) (named_in n l)
    (λ _. by_bool (sent_by n e.asked e.answered) (λ s. rw s at t) (λ f. acked_named n l (rw f at t)))

module _ (ends : Ends) (moves : Moves) (j : Joined ends moves) (n : ℕ) where
  -- what was accepted is taken or held, with the bytes submitted
  pub came_received : ends.s.0 < n → Came ends moves n → Received ends moves n
  came_received low c =
      let run = receiver_run ends moves j.widths in
      case
      (λ (a : n < next_of run).
      let t = (known run).taken_all n low a in
      record { bytes = t.0; as_submitted = accepted_submitted ends moves j n t.0 t.2; received = inr t.1 })
      (λ (a : n < next_of run → ⊥).
      record {
        bytes = c.0;
        as_submitted = accepted_submitted ends moves j n c.0 c.1;
        received = inl (accepted_held run n c.0 (omega arith) c.1);
      })
      (dec_lt n (next_of run))

  dropped : (p b : Option (List ℕ)) → made (sender_run ends moves) n ≡ p → Both n p b → Dropped ends moves n → Received ends moves n
  dropped p b e (neither z w) d =
      let u = (remembers (sender_run ends moves)).unmade_is n d.from_first (e ∙ z) in
      let g = d.not_there in
      let x : unmade ≡ gone = sym u ∙ g in
      let y : ◌≡◌ {A = ℕ} 0 1 = cc in
      absurd (omega arith)
  dropped p b e (both q c z w r) d =
      let low : ends.s.0 < n = omega (arith, ends.one_less, d.from_first) in
      came_received low (named_came ends moves j n low (acked_named n (sender_history ends moves) (gone_acked (sender_run ends moves) n q (e ∙ z) d.not_there)))

-- 1. of every run
pub nothing_forgotten : (ends : Ends) (moves : Moves) → Joined ends moves → NothingForgotten ends moves
nothing_forgotten ends moves j = record { dropped_received = λ n. dropped ends moves j n _ _ refl (made_reads ends moves j.widths n) }
