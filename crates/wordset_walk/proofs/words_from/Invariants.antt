-- Outside, the walk has come to a rank; inside, the output grows by the words of that rank; full, it holds the answer. Assumes nothing.
use Prim.Native.Nat.{◌+◌}
use Rattle.wordset_walk.proofs.Order.{Come, Grown}
use Rattle.wordset_walk.proofs.words_from.Given as goal

abbrev pub invariant-loop-suffix : goal.invariant-loop-suffix
invariant-loop-suffix l = Grown l.region l.start l.initial.at l.initial.out l.r (l.skip + l.suffix-index) l.at l.out

abbrev pub invariant-prefixes : goal.invariant-prefixes
invariant-prefixes l = Come l.region l.start l.initial.out l.out l.skip l.at l.r
