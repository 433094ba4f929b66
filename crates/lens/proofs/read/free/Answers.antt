-- A word of the free stack. Assumes nothing.
use Rattle.lens.proofs.Words.{free-is}
use Rattle.lens.proofs.read.free.Goals as goal

pub returns : goal.returns
returns c = free-is c.args.region.now c.requires.ready c.args.i c.requires.i_bound
