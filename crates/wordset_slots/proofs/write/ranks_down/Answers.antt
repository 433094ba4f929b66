-- The rank table lent, shifted, and given back. Assumes nothing.
use Rattle.wordset_slots.specs.Shift.{ShiftedDown}
use Rattle.wordset_slots.proofs.Writing.{ranks-stores}
use Rattle.wordset_slots.proofs.write.ranks_down.Goals as goal

pub returns : goal.returns
returns c = ranks-stores c.args.region.now c.requires.ready (ShiftedDown c.args.at c.args.k) c.shift_down.new.ranks c.shift_down.ensures c.shift_down.ensures.long
