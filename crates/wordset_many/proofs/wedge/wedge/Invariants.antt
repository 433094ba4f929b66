-- Many slots, from the last on: each turn makes `Wedging` true with a key fewer left. Assumes nothing.
use Rattle.wordset_many.proofs.Wedging.{Wedging}
use Rattle.wordset_many.proofs.wedge.wedge.Given as goal

abbrev pub invariant-loop-j : goal.invariant-loop-j
invariant-loop-j l = Wedging l.k l.keys l.initial.ranks l.end l.j l.ranks
