-- The packets of one submit. It stands by itself, since the struct `Making` has a ghost field, whose file must not lead back here.
use Rattle.std.specs.Prelude.{ℕ, List}
use Rattle.sender_submit.specs.Steps.{acked_packet}
use Rattle.sender_submit.specs.declared.packets.Making.{Making}

-- the packet of a number and its chunk
abbrev pub made_by : Making → ℕ → List ℕ → List ℕ
made_by m number payload = acked_packet m.acks m.nacks.now m.send m.recv number payload
