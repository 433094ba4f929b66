-- Bit i of the list is bit i % 64 of the word read. Assumes nothing.
use Rattle.region.specs.Bits.{bit}
use Rattle.bitvector.proofs.bitmap.test.Goals as goal

pub returns : goal.returns
unfolding bit
returns c = c.test.ensures
