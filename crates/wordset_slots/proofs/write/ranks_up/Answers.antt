-- The rank table lent, shifted, and given back. Assumes nothing.
use Rattle.wordset_slots.specs.Shift.{ShiftedUp}
use Rattle.wordset_slots.proofs.Writing.{ranks-stores}
use Rattle.wordset_slots.proofs.write.ranks_up.Goals as goal

pub returns : goal.returns
returns c = ranks-stores c.args.region.now c.requires.ready (ShiftedUp c.args.at c.args.k c.args.c) c.shift_up.new.ranks c.shift_up.ensures c.shift_up.ensures.long
