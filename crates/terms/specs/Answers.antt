-- What a call says in document 01's terms: a refusal's number, or the values that it gives; and what it leaves.
use Rattle.std.specs.Prelude.{ℕ, List, [], ◌∷◌, Result, Ok, Err}
use Rattle.terms.specs.Refusals.{number_of}
use Rattle.terms.specs.declared.Refusal.{Refusal}

infixr 20 ◌unless_refused◌else◌
-- of a call that gives an A where it is done
pub data Saying (A : Type 0) : Type 0 where
  -- refused, with document 01's number
  refusal : ℕ → Saying A
  -- done, and this is given
  values : A → Saying A

-- of a call that gives numbers, or none
abbrev pub Said : Type 0
Said = Saying (List ℕ)

-- every refusal changes nothing: what a call leaves, where it was done and where it was refused
abbrev pub ◌unless_refused◌else◌ : {A B : Type 0} → A → Saying B → A → A
after unless_refused refusal number else before = before
after unless_refused values given else before = after

-- the answer of a call: what it gives, by a function, or the refusal's number
abbrev pub told : {A B : Type 0} → (A → B) → Result A Refusal → Saying B
told tell (Ok given) = values (tell given)
told tell (Err why) = refusal (number_of why)

-- the same, of what is given as it is
abbrev pub saying : {A : Type 0} → Result A Refusal → Saying A
saying answer = told (λ given. given) answer

-- an answer that gives nothing
abbrev pub said : Result (Unit {0}) Refusal → Said
said answer = told (λ _. []) answer

-- an answer that gives one number: how many bytes were copied or written, how many packets, or a time
abbrev pub said_of : Result ℕ Refusal → Said
said_of answer = told (λ number. number ∷ []) answer
