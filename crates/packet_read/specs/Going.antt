-- One reading after the other: a refusal stays, and what is given goes on.
use Rattle.terms.specs.Answers.{Saying, refusal, values}

infixr 20 ◌and_then◌
abbrev pub ◌and_then◌ : {A B : Type 0} → Saying A → (A → Saying B) → Saying B
refusal number and_then next = refusal number
values given and_then next = next given
