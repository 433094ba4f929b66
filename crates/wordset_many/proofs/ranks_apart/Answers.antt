-- The rank table lent, opened for all keys, and given back. Assumes nothing.
use Rattle.wordset_slots.proofs.Writing.{ranks-stores}
use Rattle.wordset_many.specs.Wedge.{Wedged}
use Rattle.wordset_many.proofs.ranks_apart.Goals as goal

pub returns : goal.returns
returns c = ranks-stores c.args.region.now c.requires.ready (Wedged c.args.k c.args.keys.now) c.wedge.new.ranks c.wedge.ensures c.wedge.ensures.long
