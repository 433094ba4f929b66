-- Each block is passed in three loops, and once all are passed the counts decide. Assumes nothing.
use Prim.Native.Nat.{◌-◌}
use Rattle.arena.specs.Arena.{nodes_in, spare_in}
use Rattle.arena_check.proofs.Pass.{Passed}
use Rattle.arena_check.proofs.well_formed.Given as goal

abbrev pub invariant-loop-n : goal.invariant-loop-n
invariant-loop-n l = Passed l.slots l.b l.free (spare_in l.arena) (nodes_in l.slots l.arena) l.n l.taken l.tally.roots l.tally.bits l.tally.last

abbrev pub decreases-loop-n : goal.decreases-loop-n
decreases-loop-n l = l.slots - l.n
