-- One more node, one more word. Assumes nothing.
use mathlib.Core.Path.{◌≡◌}
use Rattle.region.specs.WellFormed.{nodes_used}
use Rattle.arena.specs.Arena.{nodes_in}
use Rattle.arena_check.proofs.in_use.Given as goal

abbrev pub invariant-loop-n : goal.invariant-loop-n
invariant-loop-n l = l.all ≡ nodes_used (nodes_in l.slots l.arena) l.n
