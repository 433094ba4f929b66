-- The part that moves is lent, moved and given back. Assumes nothing.
use native.Mathlib.Omega.{arith}
use Rattle.wordset_slots.proofs.Moving.{part-long, down-part}
use Rattle.wordset_slots.proofs.shift.shift_down.Goals as goal

pub lower-requires : goal.lower-requires
lower-requires c = omega (arith, part-long c.args.ranks.now c.args.at c.args.k (omega arith))

pub returns : goal.returns
returns c = down-part c.args.at c.args.k c.args.ranks.now c.requires.at_lt_k c.requires.k_in_bounds c.lower.new.part c.lower.ensures
