-- Two words of a record and a place of the stack, stored. Assumes nothing.
use native.Mathlib.Omega.{arith}
use lib.ListN.{length-set}
use Rattle.wordset_slots.proofs.Writing.{release-stores}
use Rattle.wordset_slots.proofs.write.release.Goals as goal

pub bounds-region-records-2 : goal.bounds-region-records-2
bounds-region-records-2 c = simp length-set (omega arith)

pub bounds-region-stack : goal.bounds-region-stack
bounds-region-stack c = simp length-set (omega arith)

pub returns : goal.returns
returns c = release-stores c.args.region.now c.requires.ready c.args.c c.args.i c.requires.c_bound c.requires.i_bound
