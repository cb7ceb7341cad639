-- `sender_submit::packets::Making::store_all` meets its contract: what is left to store gives the same whole at each turn. Assumes nothing.
use borrow.Author.Rules.{rules}
use Rattle.sender_submit.proofs.Storing.{storing_turn}
use Rattle.sender_submit.proofs.packets.Making.store_all.Goals as goal

pub loop-chunk-preserved : goal.loop-chunk-preserved
loop-chunk-preserved c =
    let i = c.loop-chunk.invariant in
    let cut = c.in-Some.ensures.steps.1 in
    record {
      can_next = search rules;
      is_finite = search rules;
      size = search rules;
      storing = storing_turn i.storing _ _ cut.2 cut.0 (rw i.size at cut.1) _ _ c.store.ensures.state c.store.ensures.store_after (search rules);
    }
