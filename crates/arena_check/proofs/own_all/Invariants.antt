-- Each node is tallied once. Assumes nothing.
use Rattle.arena.specs.Arena.{nodes_in, spare_in}
use Rattle.arena_check.specs.Checks.{Tallied}
use Rattle.arena_check.proofs.own_all.Given as goal

abbrev pub invariant-loop-n : goal.invariant-loop-n
invariant-loop-n l = Tallied l.slots l.b l.free (spare_in l.arena) (nodes_in l.slots l.arena) l.n l.roots l.bits l.last
