-- The invariant: n is where the first j bytes lead, and the bits on the way are set. Assumes nothing.
use Rattle.arena.specs.Arena.{nodes_in}
use Rattle.trie.specs.Walked.{Walked}
use Rattle.trie.proofs.descend.Given as goal

abbrev pub invariant-loop-j : goal.invariant-loop-j
invariant-loop-j l = Walked (nodes_in l.slots l.arena) l.root l.suffix l.b l.n l.j
