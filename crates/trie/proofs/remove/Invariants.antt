-- The bit itself is tested and cleared; then emptied nodes are freed upward, to one that holds something or with the root. Assumes nothing.
use Rattle.trie.proofs.Shrinking.{Cleared, Shrinking}
use Rattle.trie.proofs.remove.Given as goal

abbrev pub invariant-loop-used : goal.invariant-loop-used
invariant-loop-used l = Cleared l.slots l.b l.fn.arena l.initial.arena l.root l.suffix × Shrinking l.slots l.b l.used l.initial.arena l.root l.suffix l.left l.arena l.n l.j

abbrev pub decreases-loop-used : goal.decreases-loop-used
decreases-loop-used l = l.j
