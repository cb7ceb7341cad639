-- Any two results that the promise allows are equal: answer, count, reader and every byte of the buffer. Assumes nothing.
use Prim.Native.Nat.{ℕ}
use mathlib.Core.Path.{◌≡◌, refl, ap}
use mathlib.Core.List.{List}
use Rattle.std.specs.Prelude.{Result, Option, Some, None}
use Rattle.terms.specs.declared.Refusal.{Refusal}
use Rattle.terms.proofs.Determined.{determined, told_one}
use Rattle.serial_state.specs.declared.LineReader.{LineReader}
use Rattle.serial_feed.specs.Feed.{listed, heard_said, Feeds, feed_of, fed}
use Rattle.serial_feed.specs.declared.Fed.{Fed}

-- number and values leave one answer
heard_one : (a b : Result (Option ℕ) Refusal) → heard_said a ≡ heard_said b → a ≡ b
heard_one a b e = told_one listed apart a b e
  where
    apart : (x y : Option ℕ) → listed x ≡ listed y → x ≡ y
    apart (Some m) (Some n) e = cc
    apart (Some m) None e = cc
    apart None (Some n) e = cc
    apart None None e = refl

pub feed_determined : (r : LineReader) (portion buffer : List ℕ) (a b : Fed) (x y : List ℕ)
    → fed a x ≡ feed_of r portion buffer → fed b y ≡ feed_of r portion buffer → (a ≡ b) × (x ≡ y)
feed_determined r portion buffer a b x y p q =
    let e = determined p q in
    (λ k. record { answer = heard_one a.answer b.answer (ap (λ (o : Feeds). o.says) e) k; used = (e k).used; state = (e k).state }, ap (λ (o : Feeds). o.buffer) e)
