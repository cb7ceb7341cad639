-- Demand 3 of document 01, of every run: after any calls whatever, each number from s + 1 to the highest accepted is taken, held or missing, one
-- of them only; takes come in order with the first accepted bytes; an acknowledgement never hides a missing number, and 1,044 bytes always
-- hold it; and no call is refused 11 or 10. Each part has its own reason (Places, Claims). Assumes nothing.
use Rattle.receiver_runs.specs.Runs.{Run}
use Rattle.receiver_runs.specs.Delivered.{Delivered}
use Rattle.receiver_runs.proofs.Places.{nothing_lost, in_order, never_at_fault}
use Rattle.receiver_runs.proofs.Claims.{nothing_hidden}

pub delivered : (run : Run) → Delivered run
delivered run = record {
  nothing_lost = nothing_lost run;
  in_order = in_order run;
  nothing_hidden = nothing_hidden run;
  never_at_fault = never_at_fault run;
}
