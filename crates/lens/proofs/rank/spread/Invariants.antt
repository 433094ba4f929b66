-- The rank stays between low and high, whatever place is looked at. Assumes nothing.
use Rattle.lens.specs.Search.{Between}
use Rattle.lens.proofs.rank.spread.Given as goal

abbrev pub invariant-loop-looks : goal.invariant-loop-looks
invariant-loop-looks l = Between l.region l.p l.low l.high
