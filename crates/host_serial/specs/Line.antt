-- What feed gives a host, which knows numbers and no enum: the refusal's number, or 0 and a packet's length, 0 where more is wanted.
use Rattle.std.specs.Prelude.{ℕ, List, [], ◌∷◌}
use Rattle.terms.specs.Answers.{Said, refusal, values}
use Rattle.serial_state.specs.declared.LineReader.{LineReader}
use Rattle.serial_feed.specs.Feed.{Feeds}
use Rattle.host_serial.specs.declared.LineHeard.{LineHeard}

-- no refusal's number is 0, and no packet's length
abbrev pub line_heard : Said → ℕ → LineReader → LineHeard
line_heard (refusal number) used reader = record { reader = reader; refusal = number; length = 0; used = used }
line_heard (values []) used reader = record { reader = reader; refusal = 0; length = 0; used = used }
line_heard (values (size ∷ none)) used reader = record { reader = reader; refusal = 0; length = size; used = used }

pub record HostedFeed : Type 0 where
  pub heard : LineHeard
  pub buffer : List ℕ

abbrev pub hosted_feed : Feeds → HostedFeed
hosted_feed f = record { heard = line_heard f.says f.used f.state; buffer = f.buffer }

abbrev pub host_fed : LineHeard → List ℕ → HostedFeed
host_fed heard buffer = record { heard = heard; buffer = buffer }
