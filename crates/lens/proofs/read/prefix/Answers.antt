-- The record's word, as it is seen. Assumes nothing.
use Rattle.region.specs.Seen.{seen}
use Rattle.lens.proofs.read.prefix.Goals as goal

pub returns : goal.returns
unfolding seen
returns c = c.record_word.ensures
