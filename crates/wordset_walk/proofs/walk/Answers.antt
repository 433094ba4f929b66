-- The opening tells whether there is a walk, and from where. Assumes nothing.
use Rattle.wordset_walk.proofs.Telling.{opened-good}
use Rattle.wordset_walk.proofs.walk.Goals as goal

pub words_from-requires : goal.words_from-requires
words_from-requires c = opened-good c.args.region.now c.args.start c.in_ok-place.ensures
