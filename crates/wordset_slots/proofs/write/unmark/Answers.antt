-- The bitmap lent, one bit made 0, and given back. Assumes nothing.
use Rattle.lens.proofs.Words.{bitmap-room}
use Rattle.wordset_slots.proofs.Writing.{bit-stores}
use Rattle.wordset_slots.proofs.write.unmark.Goals as goal

pub clear-requires : goal.clear-requires
clear-requires c = bitmap-room c.args.region.now c.requires.ready c.args.p c.requires.p_bound

pub returns : goal.returns
returns c = bit-stores c.args.region.now c.requires.ready c.args.p 0 c.clear.new.s c.clear.ensures.made
