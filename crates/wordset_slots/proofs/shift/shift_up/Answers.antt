-- The part that moves is lent, moved and given back. Assumes nothing.
use Prim.Native.Nat.{◌+◌}
use native.Mathlib.Omega.{arith}
use Rattle.wordset_slots.proofs.Moving.{part-long, up-part}
use Rattle.wordset_slots.proofs.shift.shift_up.Goals as goal

pub raise-requires : goal.raise-requires
raise-requires c = omega (arith, part-long c.args.ranks.now c.args.at (c.args.k + 1) (omega arith))

pub returns : goal.returns
returns c = up-part c.args.at c.args.k c.args.x c.args.ranks.now c.requires.at_le_k c.requires.k_in_bounds c.raise.new.part c.raise.ensures
