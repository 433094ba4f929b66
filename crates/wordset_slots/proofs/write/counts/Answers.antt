-- Two words of the header, stored. Assumes nothing.
use native.Mathlib.Omega.{arith}
use lib.ListN.{length-set}
use Rattle.wordset_slots.proofs.Writing.{counts-stores}
use Rattle.wordset_slots.proofs.write.counts.Goals as goal

pub bounds-region-7 : goal.bounds-region-7
bounds-region-7 c = simp length-set (omega arith)

pub returns : goal.returns
returns c = counts-stores c.args.region.now c.requires c.args.k c.args.count
