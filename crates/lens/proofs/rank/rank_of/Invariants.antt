-- The rank lies between low and high, and the prefix in the middle says in which half. Assumes nothing.
use Rattle.std.proofs.Common.{◌-◌}
use Rattle.lens.specs.Search.{Between}
use Rattle.lens.proofs.rank.rank_of.Given as goal

abbrev pub invariant-loop-low : goal.invariant-loop-low
invariant-loop-low l = Between l.region l.p l.low l.high

abbrev pub decreases-loop-low : goal.decreases-loop-low
decreases-loop-low l = l.high - l.low
