-- Any two results that the promise allows are equal: every number, and every byte of the buffer. Assumes nothing.
use Prim.Native.Nat.{ℕ}
use mathlib.Core.Path.{◌≡◌, ap}
use mathlib.Core.List.{List}
use Rattle.terms.proofs.Determined.{determined}
use Rattle.serial_state.specs.declared.LineReader.{LineReader}
use Rattle.serial_feed.specs.Feed.{feed_of}
use Rattle.host_serial.specs.Line.{HostedFeed, hosted_feed, host_fed}
use Rattle.host_serial.specs.declared.LineHeard.{LineHeard}

pub feed_determined : (r : LineReader) (portion buffer : List ℕ) (a b : LineHeard) (x y : List ℕ)
    → host_fed a x ≡ hosted_feed (feed_of r portion buffer) → host_fed b y ≡ hosted_feed (feed_of r portion buffer) → (a ≡ b) × (x ≡ y)
feed_determined r portion buffer a b x y p q =
    let e = determined p q in
    (ap (λ (o : HostedFeed). o.heard) e, ap (λ (o : HostedFeed). o.buffer) e)
