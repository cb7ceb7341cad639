-- What finish does, whatever it is given: what the end of the file says. It changes nothing.
use Rattle.std.specs.Prelude.{not, []}
use Rattle.terms.specs.Ladder.{◌when◌else◌}
use Rattle.terms.specs.Answers.{Said, refusal}
use Rattle.replay_format.specs.Bytes.{end_says}
use Rattle.replay_reader.specs.Rules.{known_of, reader_rules}
use Rattle.replay_reader.specs.declared.NightReader.{NightReader}

-- a state that breaks the rules, and else 26, 27 or 29 for a file that is cut, or nothing where it is whole
unfoldable pub finish_of : NightReader → Said
finish_of r =
    refusal 11 when not (reader_rules r) else
    end_says (known_of r [])
