-- Every line of the table holds: the definitions compute it. Assumes nothing.
use mathlib.Core.Bool.{true}
use mathlib.Core.Path.{◌≡◌, refl}
use Rattle.packet_write.specs.Writing.{packet_bytes}
use Rattle.receiver_state.specs.Rules as R
use Rattle.receiver_state.specs.Start.{start_said}
use Rattle.receiver_calls.specs.Accept.{accept_said, entering, accept_of}
use Rattle.receiver_calls.specs.Take.{take_said, passing, take_of}
use Rattle.receiver_ack.specs.Missing.{missing_from}
use Rattle.receiver_ack.specs.Fields.{fields_from, nacks_from}
use Rattle.receiver_ack.specs.Acknowledge.{plain_ack, acknowledge_said, acknowledge_of}
use Rattle.timer.specs.Timer.{sampled_of, rto_of, timing_fits}
use Rattle.timer.specs.Window.{grown_of, fallen_of}
use Rattle.timer_float.specs.Float.{mix_of, cut_of, float_of, smooth_said}
use lib.Ieee.{to_unsigned, sub, add, mul, rem, of_int, of_bits}
use Rattle.sender_state.specs.Rules as P
use Rattle.sender_state.specs.Numbers.{run}
use Rattle.sender_state.specs.Rules.{clock_wrong}
use Rattle.sender_resend.specs.Resend.{is_due, resend_refusal, resend_of}
use Rattle.worked.specs.Lines.{holds, all_hold}
use Rattle.worked.specs.Table.{table}

pub worked : all_hold table ≡ true
unfolding holds start_said accept_said entering accept_of take_said passing take_of R.rules_of R.slot_fits R.sizes_fit packet_bytes missing_from fields_from nacks_from plain_ack acknowledge_said acknowledge_of sampled_of rto_of timing_fits grown_of fallen_of smooth_said float_of mix_of cut_of to_unsigned sub add mul rem of_int of_bits P.rules P.counts_fit P.timer_fits run clock_wrong is_due resend_refusal resend_of
worked = refl
