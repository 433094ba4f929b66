-- No bit is set from `from` to word i. Assumes nothing.
use Rattle.bitvector.proofs.Search.{Passed}
use Rattle.bitvector.proofs.bitmap.next_set.Given as goal

abbrev pub invariant-loop-i : goal.invariant-loop-i
invariant-loop-i l = Passed l.s l.from l.i
