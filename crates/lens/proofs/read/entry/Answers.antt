-- A word of the entries. Assumes nothing.
use Rattle.lens.proofs.Words.{entry-is}
use Rattle.lens.proofs.read.entry.Goals as goal

pub returns : goal.returns
returns c = entry-is c.args.region.now c.requires.ready c.args.c c.args.i c.requires.c_bound c.requires.i_lt_strip_words
