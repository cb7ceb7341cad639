-- What the exported calls give a host, which knows numbers and no enum: the refusal's number, or 0 and how many bytes.
use Rattle.std.specs.Prelude.{ℕ, List, [], ◌∷◌, get_or}
use Rattle.terms.specs.Answers.{Said, refusal, values, ◌unless_refused◌else◌}
use Rattle.receiver_state.specs.Answers.{Outcome}
use Rattle.receiver_state.specs.declared.Receiver.{Receiver}
use Rattle.receiver_ack.specs.Acknowledge.{Acknowledges}
use Rattle.host_numbers.specs.declared.Counted.{Counted}
use Rattle.host_numbers.specs.declared.Stand.{Stand}

abbrev pub first_or0 : List ℕ → ℕ
first_or0 [] = 0
first_or0 (n ∷ ns) = n

-- no refusal's number is 0
abbrev pub in_numbers : Said → Counted
in_numbers (refusal number) = record { refusal = number; count = 0 }
in_numbers (values given) = record { refusal = 0; count = first_or0 given }

-- what a host finds after a call on a receiver: the answer in numbers, the state behind the reference, and what was lent to change
pub record ForHost : Type 0 where
  pub answer : Counted
  pub state : Receiver
  pub lent : List ℕ

-- what it is to find where the call has this outcome
abbrev pub for_host : Outcome → ForHost
for_host o = record { answer = in_numbers o.says; state = o.state; lent = o.lent }

-- the same of a start, which is lent a state: where it is refused, that state stays as it was
abbrev pub start_for_host : Receiver → Outcome → ForHost
start_for_host before o = record { answer = in_numbers o.says; state = o.state unless_refused o.says else before; lent = [] }

-- and of an acknowledgement, which is lent an output and leaves the state
pub record AckForHost : Type 0 where
  pub answer : Counted
  pub output : List ℕ

abbrev pub ack_for_host : Acknowledges → AckForHost
ack_for_host a = record { answer = in_numbers a.says; output = a.output }

-- where a number stands in a receiver: the case by its number, 1 to 8, and the smallest missing number where one is named, else 0
abbrev pub stand_of : Said → Stand
stand_of (refusal number) = record { refusal = number; reason = 0; smallest = record { 0 = 0 } }
stand_of (values given) = record { refusal = 0; reason = get_or given 0 0; smallest = record { 0 = get_or given 1 0 } }

-- results of the code, as what the host finds: with a number alone, with a count too, and with an output
abbrev pub with_number : ℕ → Receiver → List ℕ → ForHost
with_number number state lent = record { answer = record { refusal = number; count = 0 }; state = state; lent = lent }

abbrev pub with_count : Counted → Receiver → List ℕ → ForHost
with_count answer state lent = record { answer = answer; state = state; lent = lent }

abbrev pub with_output : Counted → List ℕ → AckForHost
with_output answer output = record { answer = answer; output = output }
