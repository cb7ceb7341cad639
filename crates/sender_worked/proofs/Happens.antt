-- What is heard in the example: the definitions compute it. Assumes nothing.
use mathlib.Core.Path.{◌≡◌, refl}
use Rattle.receiver_state.specs.Rules as R
use Rattle.receiver_ack.specs.Missing.{missing_from}
use Rattle.receiver_ack.specs.Fields.{fields_from, nacks_from}
use Rattle.packet_write.specs.Writing.{packet_bytes}
use Rattle.timer.specs.Timer.{sampled_of, rto_of, timing_fits}
use Rattle.timer.specs.Window.{grown_of}
use Rattle.sender_state.specs.Numbers.{run}
use Rattle.sender_state.specs.Rules as P
use Rattle.sender_state.specs.Start.{start_said}
use Rattle.sender_state.specs.Table.{replaced}
use Rattle.sender_send.specs.Send.{send_said, armed, send_of}
use Rattle.sender_acks.specs.Acks.{acks_refusal, acks_of}
use Rattle.sender_submit_answer.specs.Answer.{submit_said}
use Rattle.sender_submit.specs.Chunks.{stored_by}
use Rattle.sender_submit.specs.Submit.{submit_of}
use Rattle.sender_runs.specs.Runs.{history_of}
use Rattle.sender_worked.specs.Example.{example, heard_in, heard}

pub happens : heard_in (history_of example) ≡ heard
unfolding P.sizes_fit P.counts_fit P.rules P.timer_fits P.clock_wrong start_said R.rules_of R.sizes_fit R.slot_fits missing_from fields_from nacks_from packet_bytes sampled_of rto_of timing_fits grown_of run replaced send_said armed send_of acks_refusal acks_of submit_said stored_by submit_of
happens = refl
