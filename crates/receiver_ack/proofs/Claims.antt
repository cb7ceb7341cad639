-- What the ack fields of a receiver claim, told by the standing of each number. None of it asks that the state keeps the rules.
-- Assumes nothing.
use Prim.Native.Nat.{ℕ, ◌≤◌}
use mathlib.Core.Path.{◌≡◌, sym, ◌∙◌, ap}
use mathlib.Core.Bool.{true, not}
use mathlib.Core.List.{List}
use native.Mathlib.Omega.{arith}
use Rattle.std.proofs.lemmas.Bool.Decides.{nat_tests}
use Rattle.terms.specs.Lists.{all}
use Rattle.wire.proofs.RoundTrip.{all_take}
use Rattle.receiver_calls.specs.Meaning.{standing, is_missing}
use Rattle.receiver_state.specs.declared.Receiver.{Receiver}
use Rattle.receiver_ack.specs.Missing.{missing_of, is_among, ascending, is_received}
use Rattle.receiver_ack.specs.Fields.{fields_from, nacks_from, ack_nacks_of, ack_through_of}
use Rattle.receiver_ack.proofs.Among.{all_among, missing_among, missing_at, missing_ascending, ascending_take, among_first, climbs}

module _ (r : Receiver) where
  -- The missing numbers: a number is among them exactly if it is missing, and they ascend.
  pub missing_told : (n : ℕ) → is_among n (missing_of r) ≡ is_missing r n
  missing_told n = missing_among r.head.next.0 r.head.highest.0 r.marks n

  pub missing_all : all (is_missing r) (missing_of r) ≡ true
  missing_all = all_among (is_missing r) (missing_of r) (λ n h. sym (missing_told n) ∙ h)

  pub missing_in_order : ascending (missing_of r) ≡ true
  missing_in_order = missing_ascending r.head.next.0 r.head.highest.0 r.marks

  -- Ack-through never exceeds highest.
  pub through_at_most : ack_through_of r ≤ r.head.highest.0
  unfolding fields_from
  through_at_most = grind (arith, nat_tests, missing_at r.head.next.0 r.head.highest.0 r.marks 255)

  -- The NACKs are at most 255, ascend, and are all missing.
  pub nacks_in_order : ascending (ack_nacks_of r) ≡ true
  unfolding nacks_from
  nacks_in_order = grind (arith, nat_tests, missing_in_order, ascending_take 255 (missing_of r))

  pub nacks_missing : all (is_missing r) (ack_nacks_of r) ≡ true
  unfolding nacks_from
  nacks_missing = grind (arith, nat_tests, missing_all, all_take (is_missing r) 255 (missing_of r))

  -- Of the numbers up to ack-through, the NACKs are exactly the missing ones.
  pub nacks_told : (n : ℕ) → n ≤ ack_through_of r → is_among n (ack_nacks_of r) ≡ is_missing r n
  unfolding fields_from nacks_from
  nacks_told n up = grind (arith, nat_tests, missing_told n, among_first n 255 (missing_of r) missing_in_order, climbs 255 (missing_of r) missing_in_order)

  -- A number up to highest is taken, held or missing.
  pub received_told : (store : List ℕ) (n : ℕ) → n ≤ r.head.highest.0 → is_received (standing r store n) ≡ not (is_missing r n)
  unfolding standing
  received_told store n up = grind (arith, nat_tests)

  -- A number up to ack-through is absent from the NACKs exactly if it is taken, at most the s that the start came after, or held.
  pub absent_received : (store : List ℕ) (n : ℕ) → n ≤ ack_through_of r → not (is_among n (ack_nacks_of r)) ≡ is_received (standing r store n)
  absent_received store n up = ap not (nacks_told n up) ∙ sym (received_told store n (omega (arith, through_at_most)))
