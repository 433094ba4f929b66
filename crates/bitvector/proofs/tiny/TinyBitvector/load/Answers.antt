-- The first four words of a list are its `take 4`. Assumes nothing.
use Rattle.bitvector.proofs.Four.{load-four}
use Rattle.bitvector.proofs.tiny.TinyBitvector.load.Goals as goal

pub returns : goal.returns
returns c = load-four c.args.node.now c.requires
