-- The bitmap lent, one bit made 1, and given back. Assumes nothing.
use Rattle.lens.proofs.Words.{bitmap-room}
use Rattle.wordset_slots.proofs.Writing.{bit-stores}
use Rattle.wordset_slots.proofs.write.mark.Goals as goal

pub set-requires : goal.set-requires
set-requires c = bitmap-room c.args.region.now c.requires.ready c.args.p c.requires.p_bound

pub returns : goal.returns
returns c = bit-stores c.args.region.now c.requires.ready c.args.p 1 c.set.new.s c.set.ensures.made
