-- The node keeps the bit of the next member while it loses that of the one at k. Assumes nothing.
use Prim.Native.Nat.{◌-◌}
use lib.ListN.{length}
use Rattle.trie_pour.proofs.Thinning.{Run}
use Rattle.trie_pour.proofs.reap.thin.Given as goal

abbrev pub invariant-loop-k : goal.invariant-loop-k
invariant-loop-k l = Run l.slots l.b l.used l.initial.arena l.root l.out l.i l.node l.head l.k l.arena

abbrev pub decreases-loop-k : goal.decreases-loop-k
decreases-loop-k l = length l.out - l.k
