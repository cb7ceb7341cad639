-- What an ack claims was accepted when it was written, and stays accepted; so whatever acks named at the sender was accepted at the receiver. Assumes nothing.
use Prim.Native.Nat.{ℕ, ◌≤◌, ◌<◌}
use mathlib.Core.Path.{◌≡◌, refl, sym, ◌∙◌, ap}
use mathlib.Core.Bool.{true, false, ◌||◌, true≢false}
use mathlib.Core.List.{List, [], ◌∷◌, ◌++◌, append-nil, append_assoc}
use mathlib.Core.List.{Memᴰ as IsOneOf}
use mathlib.Core.List.Memᴰ
use mathlib.Core.Logic.{◌⊎◌, ⊎_elim}
use mathlib.Core.Option.{some}
use native.Mathlib.Omega.{arith}
use borrow.Author.Tests.{leb-true, eqb-false, ne_eqb, not-true}
use lib.Dec.{leb, eqb}
use Rattle.terms.specs.Lists.{all}
use Rattle.terms.specs.Answers.{Said, refusal, values}
use Rattle.terms.proofs.Laws.{and_left, and_right, or_left, or_right}
use Rattle.receiver_ack.specs.Missing.{is_among}
use Rattle.sender_state.specs.Table.{differs}
use Rattle.sender_meaning.specs.Steps.{is_named}
use Rattle.sender_meaning.proofs.Counts.{by_bool}
use Rattle.receiver_runs.specs.Runs as R
use Rattle.receiver_runs.specs.History.{accepted_in, first_of}
use Rattle.receiver_runs.specs.Delivered.{Taken, Held, through_in, nacks_in, Honest}
use Rattle.receiver_runs.proofs.Pieces.{first_stays}
use Rattle.receiver_runs.proofs.Places.{known, taken_below, nothing_lost}
use Rattle.receiver_runs.proofs.More.{ack_honest}
use Rattle.receiver_runs.proofs.More as Receives
use Rattle.sender_runs.specs.Runs as S
use Rattle.sender_runs.specs.Remembers.{named_by, named_in}
use Rattle.sender_runs.proofs.More.{asked_is}
use Rattle.stream_joined.specs.Moves.{Ends, at_sender, at_receiver, Moves, nothing, ◌then◌, sender_end, sender_history, receiver_end, receiver_history, moves_in_width}
use Rattle.stream_joined.specs.Wire.{ack_by, acks_in, Returns, HandedToSender, Joined}
use Rattle.stream_joined.proofs.Halves.{receiver_run, earlier_joined, sent_event, named_on, got_event, got_more, accepted_on}

-- a packet of the number was accepted
abbrev pub Came : Ends → Moves → ℕ → Type 0
Came ends moves n = (bytes : List ℕ) × (first_of n (accepted_in (receiver_history ends moves)) ≡ some bytes)

-- what came stays
came_stays : (ends : Ends) (earlier : Moves) (call : R.Call) (n : ℕ) → Came ends earlier n → Came ends (earlier then at_receiver call) n
came_stays ends earlier call n c = (
  c.0,
  ap (first_of n) (accepted_on ends earlier call)
      ∙ first_stays n (accepted_in (receiver_history ends earlier)) (accepted_in (got_event ends earlier call ∷ [])) c.0 c.1,
)

-- what an ack claims was accepted
pub record Claims (ends : Ends) (moves : Moves) (packet : List ℕ) : Type 0 where
  pub absent_came : (n : ℕ) → ends.s.0 < n → n ≤ through_in packet → is_among n (nacks_in packet) ≡ false → Came ends moves n

claims_stay : (ends : Ends) (earlier : Moves) (call : R.Call) (packet : List ℕ) → Claims ends earlier packet → Claims ends (earlier then at_receiver call) packet
claims_stay ends earlier call packet c = record { absent_came = λ n low up out. came_stays ends earlier call n (c.absent_came n low up out) }

-- THE RECEIVER'S SIDE

module _ (ends : Ends) (moves : Moves) (wide : moves_in_width moves ≡ true) where
  -- what is taken or held was accepted
  there_came : (n : ℕ) → ends.s.0 < n → Taken (receiver_run ends moves wide) n ⊎ Held (receiver_run ends moves wide) n → Came ends moves n
  there_came n low =
      let run = receiver_run ends moves wide in
      ⊎_elim
      (λ t. let k = (known run).taken_all n low (taken_below run n t) in (k.0, k.2))
      (λ h. (h.0, (nothing_lost run).held_first n h.0 h.1))

  honest_claims : (packet : List ℕ) → Honest (receiver_run ends moves wide) packet → Claims ends moves packet
  honest_claims packet h = record {
    absent_came = λ n low up out. ⊎_elim (λ (a : n ≤ ends.s.0). absurd (omega arith)) (there_came n low) ((h.absent_is n up).0 out);
  }

  -- an ack at the moment when it is written
  writes : (call : R.Call) (says : Said) → R.in_width call ≡ true → (R.step_of (receiver_end ends moves) call).event.answered ≡ says
      → (packet : List ℕ) → IsOneOf packet (ack_by call says (R.step_of (receiver_end ends moves) call).event.output) → Claims ends moves packet
  writes (R.acknowledge send recv output) (values given) fits v packet w =
      rw (Memᴰ.eq_of_singleton w) (honest_claims _ (ack_honest (receiver_run ends moves wide) send recv output given fits v))
  writes (R.acknowledge send recv output) (refusal why) fits v packet w = absurd (Memᴰ.not-nil w)
  writes (R.accept number payload) says fits v packet w = absurd (Memᴰ.not-nil w)
  writes (R.take output) says fits v packet w = absurd (Memᴰ.not-nil w)

acks_more : (h rest : List R.Event) → acks_in (h ++ rest) ≡ acks_in h ++ acks_in rest
acks_more [] rest = refl
acks_more (e ∷ h) rest = rw (acks_more h rest, append_assoc (ack_by e.asked e.answered e.output) (acks_in h) (acks_in rest))

-- and later
pub written_claims : (ends : Ends) (moves : Moves) → moves_in_width moves ≡ true → (packet : List ℕ) → IsOneOf packet (acks_in (receiver_history ends moves)) → Claims ends moves packet
written_claims ends nothing wide packet w = absurd (Memᴰ.not-nil w)
written_claims ends (earlier then at_sender call) wide packet w =
    let c = written_claims ends earlier (and_left (moves_in_width earlier) _ wide) packet w in
    record { absent_came = c.absent_came }
written_claims ends (earlier then at_receiver call) wide packet w =
    let low = and_left (moves_in_width earlier) (R.in_width call) wide in
    let event = got_event ends earlier call in
    let own = ack_by event.asked event.answered event.output in
    let is = ap acks_in (got_more ends earlier call) ∙ acks_more (receiver_history ends earlier) (event ∷ []) in
    let w' : IsOneOf packet (acks_in (receiver_history ends earlier) ++ (own ++ [])) = rw is at w in
    claims_stay ends earlier call packet
    (⊎_elim (written_claims ends earlier low packet)
    (λ (d : IsOneOf packet (own ++ [])).
    writes ends earlier low call event.answered (and_right (moves_in_width earlier) (R.in_width call) wide) refl packet
    (rw (append-nil own, Receives.asked_is (receiver_end ends earlier) call) at d))
    (Memᴰ.append_cases (acks_in (receiver_history ends earlier)) w'))

-- THE SENDER'S SIDE

-- a number that acks name is not among the NACKs
named_absent : (n : ℕ) (nacks : List ℕ) → all (differs n) nacks ≡ true → is_among n nacks ≡ false
named_absent n [] t = refl
named_absent n (m ∷ nacks) t =
    let other : n ≡ m → ⊥ = λ e. eqb-false m n (not-true (eqb m n) (and_left (differs n m) (all (differs n) nacks) t)) (sym e) in
    rw (ne_eqb n m other) (named_absent n nacks (and_right (differs n m) (all (differs n) nacks) t))

module _ (ends : Ends) (earlier : Moves) (wide : moves_in_width earlier ≡ true) (n : ℕ) (low : ends.s.0 < n) where
  returned : (through : ℕ) (nacks : List ℕ) → Returns (acks_in (receiver_history ends earlier)) through nacks → is_named through nacks n ≡ true → Came ends earlier n
  returned through nacks r t =
      let up : n ≤ through = leb-true n through (and_left (leb n through) (all (differs n) nacks) t) in
      let out = named_absent n nacks (and_right (leb n through) (all (differs n) nacks) t) in
      (written_claims ends earlier wide r.packet r.was_written).absent_came n low (rw r.through_read at up) (rw r.nacks_read at out)

  -- what a call at the sender names
  names : (call : S.Call) (says : Said) → HandedToSender (acks_in (receiver_history ends earlier)) call → named_by n call says ≡ true → Came ends earlier n
  names (S.acks through nacks clock) (values given) r t = returned through nacks r t
  names (S.acks through nacks clock) (refusal why) r t = absurd (true≢false (sym t))
  names (S.submit r to from bytes) says b t = absurd (true≢false (sym t))
  names (S.send clock output) says b t = absurd (true≢false (sym t))
  names (S.resend clock path) says b t = absurd (true≢false (sym t))
  names (S.fetch rank output) says b t = absurd (true≢false (sym t))

pub named_came : (ends : Ends) (moves : Moves) → Joined ends moves → (n : ℕ) → ends.s.0 < n → named_in n (sender_history ends moves) ≡ true → Came ends moves n
named_came ends nothing j n low t = absurd (true≢false (sym t))
named_came ends (earlier then at_receiver call) j n low t =
    came_stays ends earlier call n (named_came ends earlier (earlier_joined ends earlier (at_receiver call) j) n low t)
named_came ends (earlier then at_sender call) j n low t =
    let before = earlier_joined ends earlier (at_sender call) j in
    let event = sent_event ends earlier call in
    let was = named_in n (sender_history ends earlier) in
    let own = named_by n event.asked event.answered in
    let either : (was || (own || false)) ≡ true = sym (named_on ends earlier call n) ∙ t in
    by_bool was
    (λ a. named_came ends earlier before n low a)
    (λ f.
    let now = or_left own false refl (or_right was (own || false) f either) in
    names ends earlier before.widths n low call event.answered j.truly.1 (rw (asked_is (sender_end ends earlier) call) at now))
