-- A word of the records. Assumes nothing.
use Rattle.lens.proofs.Words.{record_is}
use Rattle.lens.proofs.read.record_word.Goals as goal

pub returns : goal.returns
returns c = record_is c.args.region.now c.requires.ready c.args.c c.args.i c.requires.c_bound c.requires.i_lt_record_words
