-- `sender_send::going::judge_send` meets its contract: the packet that leaves stands within the store. Assumes nothing.
use mathlib.Core.Path.{sym, ◌∙◌}
use Rattle.sender_state.proofs.Facts.{clock_fair}
use Rattle.sender_send.proofs.going.judge_send.Goals as goal

pub returns-clause-found : goal.returns-clause-found
returns-clause-found c = record {
  stands = c.in-Some.ensures.stands;
  inside = c.in-Some.ensures.stands.stored _ (sym c.sizes_fit.ensures ∙ c.if-not-sizes_fit.false);
  fits = c.if-packet-room.false;
  clock_most = (clock_fair _ _ (sym c.clock_wrong.ensures ∙ c.if-clock_wrong.false)).1;
}
