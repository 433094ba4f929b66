-- Down from where the walk stops, a node at a time, and the last bit. Assumes nothing.
use Rattle.trie.proofs.Growing.{Growing}
use Rattle.trie.proofs.insert.Given as goal

abbrev pub invariant-loop-i : goal.invariant-loop-i
invariant-loop-i l = Growing l.slots l.b l.used l.initial.arena l.root l.suffix l.j l.left l.arena l.n l.i
