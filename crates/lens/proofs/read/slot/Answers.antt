-- A word of the rank table. Assumes nothing.
use Rattle.lens.proofs.Words.{slot_is}
use Rattle.lens.proofs.read.slot.Goals as goal

pub returns : goal.returns
returns c = slot_is c.args.region.now c.requires.ready c.args.i c.requires.i_bound
