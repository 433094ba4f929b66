-- The suffixes before those that are left are taken over; the slot, once it is known, is the prefix's. Assumes nothing.
use Rattle.std.specs.Slice.Iter.{chunks_rest, chunks_size}
use Rattle.region.specs.Read.{reading}
use Rattle.set_ops.specs.Poured.{wanted}
use Rattle.set_ops.proofs.TakeBlocks.{Asking}
use Rattle.set_ops.proofs.take.take_asked.Given as goal

abbrev pub invariant-loop-block : goal.invariant-loop-block
invariant-loop-block l = Asking (wanted (reading l.other) l.wanted) l.p l.chunk l.initial.dest l.dest l.kept l.slot (chunks_size l.block-iterator) (chunks_rest l.block-iterator)
