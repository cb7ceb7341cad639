-- Any two results that a promise allows are equal: answer, the state behind the reference, and every lent byte. Assumes nothing.
use Prim.Native.Nat.{ℕ}
use mathlib.Core.Path.{◌≡◌, ap}
use mathlib.Core.List.{List, []}
use lib.ListN.{length}
use Rattle.terms.specs.declared.SeqNo.{SeqNo}
use Rattle.terms.specs.declared.StreamId.{StreamId}
use Rattle.terms.proofs.Determined.{determined}
use Rattle.packet_read.specs.Reading.{read_of}
use Rattle.receiver_state.specs.Start.{start_of}
use Rattle.receiver_calls.specs.Accept.{accept_of}
use Rattle.receiver_calls.specs.Take.{take_of}
use Rattle.receiver_state.specs.declared.Receiver.{Receiver}
use Rattle.receiver_ack.specs.Acknowledge.{acknowledge_of}
use Rattle.receiver_why.specs.Reasons.{why_of}
use Rattle.host_numbers.specs.declared.Counted.{Counted}
use Rattle.host_numbers.specs.declared.Fields.{Fields}
use Rattle.host_numbers.specs.declared.Stand.{Stand}
use Rattle.host_numbers.specs.Numbers.{ForHost, for_host, start_for_host, stand_of, with_number, with_count, AckForHost, ack_for_host, with_output}
use Rattle.host_numbers.specs.Fields.{hosted_read}
use Rattle.serial_state.specs.Start.{line_start}
use Rattle.serial_state.specs.declared.LineReader.{LineReader}
use Rattle.serial_feed.specs.Feed.{feed_of}
use Rattle.host_serial.specs.Line.{hosted_feed, host_fed}
use Rattle.host_serial.specs.declared.LineHeard.{LineHeard}
use Rattle.host_serial.proofs.Determined.{feed_determined}

pub digitmeadow_read_determined : (packet : List ℕ) (a b : Fields) → a ≡ hosted_read (read_of packet) → b ≡ hosted_read (read_of packet) → a ≡ b
digitmeadow_read_determined packet a b p q = determined p q

module _ (s t : Receiver) (x y : List ℕ) where
  -- what two equal outcomes of a call on a receiver leave
  left : (a b : ℕ) → with_number a s x ≡ with_number b t y → (a ≡ b) × (s ≡ t) × (x ≡ y)
  left a b e = (ap (λ (o : ForHost). o.answer.refusal) e, ap (λ (o : ForHost). o.state) e, ap (λ (o : ForHost). o.lent) e)

  pub digitmeadow_accept_determined : (r : Receiver) (number : SeqNo) (payload store : List ℕ) (a b : ℕ)
      → with_number a s x ≡ for_host (accept_of r number payload store) → with_number b t y ≡ for_host (accept_of r number payload store) → (a ≡ b) × (s ≡ t) × (x ≡ y)
  digitmeadow_accept_determined r number payload store a b p q = left a b (determined p q)

  pub digitmeadow_take_determined : (r : Receiver) (store output : List ℕ) (a b : Counted)
      → with_count a s x ≡ for_host (take_of r store output) → with_count b t y ≡ for_host (take_of r store output) → (a ≡ b) × (s ≡ t) × (x ≡ y)
  digitmeadow_take_determined r store output a b p q =
      let e = determined p q in
      (ap (λ (o : ForHost). o.answer) e, ap (λ (o : ForHost). o.state) e, ap (λ (o : ForHost). o.lent) e)

pub digitmeadow_start_determined : (r : Receiver) (n : SeqNo) (slot : ℕ) (store : List ℕ) (a b : ℕ) (s t : Receiver)
    → with_number a s [] ≡ start_for_host r (start_of n slot (length store)) → with_number b t [] ≡ start_for_host r (start_of n slot (length store)) → (a ≡ b) × (s ≡ t)
digitmeadow_start_determined r n slot store a b s t p q =
    let e = determined p q in
    (ap (λ (o : ForHost). o.answer.refusal) e, ap (λ (o : ForHost). o.state) e)

pub digitmeadow_acknowledge_determined : (r : Receiver) (send recv : StreamId) (output : List ℕ) (a b : Counted) (x y : List ℕ)
    → with_output a x ≡ ack_for_host (acknowledge_of r send recv output) → with_output b y ≡ ack_for_host (acknowledge_of r send recv output) → (a ≡ b) × (x ≡ y)
digitmeadow_acknowledge_determined r send recv output a b x y p q =
    let e = determined p q in
    (ap (λ (o : AckForHost). o.answer) e, ap (λ (o : AckForHost). o.output) e)

pub digitmeadow_why_determined : (r : Receiver) (number : SeqNo) (a b : Stand) → a ≡ stand_of (why_of r number) → b ≡ stand_of (why_of r number) → a ≡ b
digitmeadow_why_determined r number a b p q = determined p q

pub digitmeadow_line_start_determined : (buffer : List ℕ) (a b : LineReader) → a ≡ line_start buffer → b ≡ line_start buffer → a ≡ b
digitmeadow_line_start_determined buffer a b p q = determined p q

pub digitmeadow_line_feed_determined : (r : LineReader) (portion buffer : List ℕ) (a b : LineHeard) (x y : List ℕ)
    → host_fed a x ≡ hosted_feed (feed_of r portion buffer) → host_fed b y ≡ hosted_feed (feed_of r portion buffer) → (a ≡ b) × (x ≡ y)
digitmeadow_line_feed_determined r portion buffer a b x y p q = feed_determined r portion buffer a b x y p q
