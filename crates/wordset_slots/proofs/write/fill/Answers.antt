-- Three words of a record and one entry, stored. Assumes nothing.
use native.Mathlib.Omega.{arith}
use lib.ListN.{length-set}
use Rattle.wordset_slots.proofs.Writing.{fill-stores}
use Rattle.wordset_slots.proofs.write.fill.Goals as goal

pub bounds-region-records-2 : goal.bounds-region-records-2
bounds-region-records-2 c = simp length-set (omega arith)

pub bounds-region-records-3 : goal.bounds-region-records-3
bounds-region-records-3 c = simp length-set (omega arith)

pub bounds-region-entries : goal.bounds-region-entries
bounds-region-entries c = simp length-set (omega arith)

pub returns : goal.returns
returns c = fill-stores c.args.region.now c.requires.ready c.args.c c.args.p c.args.s c.requires.c_bound
