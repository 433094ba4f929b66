-- The containers of the ranks below r are poured. Assumes nothing.
use Rattle.region.specs.Read.{reading}
use Rattle.set_ops.specs.Poured.{wanted}
use Rattle.set_ops.proofs.Sources.{Ranking}
use Rattle.set_ops.proofs.pour.pour.Given as goal

abbrev pub invariant-loop-r : goal.invariant-loop-r
invariant-loop-r l = Ranking (wanted (reading l.other) l.fn.wanted) l.src l.initial.dest l.dest l.r
