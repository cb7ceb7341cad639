-- A promise that is an equation allows one result only. Assumes nothing.
use Prim.Native.Nat.{ℕ}
use mathlib.Core.Path.{◌≡◌, sym, ◌∙◌, refl, ap}
use Rattle.terms.specs.Refusals.{number_of}
use Rattle.terms.specs.declared.Refusal.{Refusal}
use native.Mathlib.Omega.{arith}
use Rattle.terms.proofs.Numbers.{number_one}
use Rattle.terms.specs.Answers.{told, saying, said, said_of}
use Rattle.std.specs.Prelude.{[], ◌∷◌, Result, Ok, Err}

-- what every line `NAME_determined` rests on
pub determined : {A : Type 0} {promised a b : A} → a ≡ promised → b ≡ promised → a ≡ b
determined p q = p ∙ sym q

pub number_determined : (r : Refusal) (a b : ℕ) → a ≡ number_of r → b ≡ number_of r → a ≡ b
number_determined r a b p q = determined p q

-- document 01's number and values leave one answer, where what is told of two given things tells them apart
pub told_one : {A B : Type 0} (tell : A → B) → ((x y : A) → tell x ≡ tell y → x ≡ y) → (a b : Result A Refusal) → told tell a ≡ told tell b → a ≡ b
told_one tell apart (Ok x) (Ok y) e = ap Ok (apart x y cc)
told_one tell apart (Ok x) (Err r) e = let z : ◌≡◌ {A = ℕ} 0 1 = cc in absurd (omega arith)
told_one tell apart (Err q) (Ok y) e = let z : ◌≡◌ {A = ℕ} 0 1 = cc in absurd (omega arith)
told_one tell apart (Err q) (Err r) e = ap Err (number_one q r cc)

pub saying_one : {A : Type 0} (a b : Result A Refusal) → saying a ≡ saying b → a ≡ b
saying_one a b e = told_one (λ given. given) (λ x y h. h) a b e

pub said_one : (a b : Result (Unit {0}) Refusal) → said a ≡ said b → a ≡ b
said_one a b e = told_one (λ _. []) (λ x y h. refl) a b e

pub said_of_one : (a b : Result ℕ Refusal) → said_of a ≡ said_of b → a ≡ b
said_of_one a b e = told_one (λ number. number ∷ []) (λ x y h. cc) a b e
