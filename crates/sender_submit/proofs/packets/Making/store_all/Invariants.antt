-- `sender_submit::packets::Making::store_all` meets its contract: what is left to store gives the same whole at each turn. Assumes nothing.
use mathlib.Core.Path.{◌≡◌}
use lib.ListN.{length}
use Rattle.std.specs.Slice.Iter.{chunks_rest, chunks_size}
use Rattle.sender_submit_answer.specs.Answer.{chunks_of}
use Rattle.sender_submit.specs.Chunks.{stored_by}
use Rattle.sender_submit.specs.Making.{made_by}
use Rattle.sender_submit.proofs.Storing.{Storing}
use Rattle.sender_submit.proofs.packets.Making.store_all.Given as goal

abbrev pub invariant-loop-chunk : goal.invariant-loop-chunk
invariant-loop-chunk l = record {
  can_next : goal.iterator-loop-chunk.can_next l.chunk-iterator;
  is_finite : goal.iterator-loop-chunk.is_finite l.chunk-iterator;
  size : chunks_size l.chunk-iterator ≡ l.s.chunk;
  storing : Storing (made_by l.self) (stored_by (made_by l.self) (chunks_of l.fn.s.chunk (length l.bytes)) l.bytes l.fn.s l.initial.store) (chunks_rest l.chunk-iterator) l.s l.store;
}
