-- The region is lent for reading, so that one check serves every walk. Assumes nothing.
use Rattle.leaves_sets.proofs.leaf_set_walk.Goals as goal

pub words_from-requires : goal.words_from-requires
words_from-requires c = c.well_formed-2.ensures.yes c.if-not-well_formed.false
