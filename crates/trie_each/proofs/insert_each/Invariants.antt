-- The first i suffixes are members, and the node above the last of them is known. Assumes nothing.
use Rattle.trie_each.proofs.Running.{Held}
use Rattle.trie_each.proofs.insert_each.Given as goal

abbrev pub invariant-loop-i : goal.invariant-loop-i
invariant-loop-i l = Held l.shape.slots l.shape.b l.used l.root l.suffixes l.initial.arena l.arena l.added l.left l.above l.i
