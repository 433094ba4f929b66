-- The bytes before j stand, and zeros from j on. Assumes nothing.
use Rattle.sliced_int.proofs.Filling.{Filled}
use Rattle.sliced_int.proofs.SlicedInt.from_int.Given as goal

abbrev pub invariant-loop-j : goal.invariant-loop-j
invariant-loop-j l = Filled l.b l.s l.bytes l.j
