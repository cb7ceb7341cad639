-- Any two results that a promise allows are equal: answer, count, reader and every byte of the buffer. Assumes nothing.
use Prim.Native.Nat.{ℕ}
use mathlib.Core.Path.{◌≡◌, refl, ap}
use mathlib.Core.Bool.{Bool}
use mathlib.Core.List.{List}
use Rattle.std.specs.Prelude.{Result, Option, Some, None}
use Rattle.terms.proofs.Determined.{determined, told_one, said_one}
use Rattle.terms.specs.Answers.{said}
use Rattle.terms.specs.declared.Refusal.{Refusal}
use Rattle.replay_format.specs.Night.{has_place, size_fits}
use Rattle.replay_reader.specs.ReadOn.{met_listed, said_met, Onwards, read_on_of, onward}
use Rattle.replay_reader.specs.Finish.{finish_of}
use Rattle.replay_reader.specs.Rules.{night_start}
use Rattle.replay_reader.specs.declared.NightReader.{NightReader}
use Rattle.replay_reader.specs.declared.Onward.{Onward}
use Rattle.replay_reader.specs.declared.Record as C

-- number and values leave one answer
met_one : (a b : Result (Option C.Record) Refusal) → said_met a ≡ said_met b → a ≡ b
met_one a b e = told_one met_listed apart a b e
  where
    apart : (x y : Option C.Record) → met_listed x ≡ met_listed y → x ≡ y
    apart (Some x) (Some y) e = let k : x.kind ≡ y.kind = cc in let n : x.size ≡ y.size = cc in λ i. Some (record { kind = k i; size = n i })
    apart (Some x) None e = cc
    apart None (Some y) e = cc
    apart None None e = refl

pub start_determined : (a b : NightReader) → a ≡ night_start → b ≡ night_start → a ≡ b
start_determined a b p q = determined p q

pub read_on_determined : (r : NightReader) (portion buffer : List ℕ) (a b : Onward) (x y : List ℕ)
    → onward a x ≡ read_on_of r portion buffer → onward b y ≡ read_on_of r portion buffer → (a ≡ b) × (x ≡ y)
read_on_determined r portion buffer a b x y p q =
    let e = determined p q in
    (λ k. record { answer = met_one a.answer b.answer (ap (λ (o : Onwards). o.says) e) k; used = (e k).used; reader = (e k).reader }, ap (λ (o : Onwards). o.buffer) e)

pub finish_determined : (r : NightReader) (a b : Result (Unit {0}) Refusal) → said a ≡ finish_of r → said b ≡ finish_of r → a ≡ b
finish_determined r a b p q = said_one a b (determined p q)

pub has_place_determined : (first : Bool) (kind : ℕ) (a b : Bool) → a ≡ has_place first kind → b ≡ has_place first kind → a ≡ b
has_place_determined first kind a b p q = determined p q

pub size_fits_determined : (kind size : ℕ) (a b : Bool) → a ≡ size_fits kind size → b ≡ size_fits kind size → a ≡ b
size_fits_determined kind size a b p q = determined p q
