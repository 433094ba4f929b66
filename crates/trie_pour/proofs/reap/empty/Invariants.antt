-- The members are the entries of the output from i on; those of one node go together. Assumes nothing.
use Prim.Native.Nat.{◌-◌}
use lib.ListN.{length}
use Rattle.trie_pour.proofs.Reaping.{Reaped}
use Rattle.trie_pour.proofs.reap.empty.Given as goal

abbrev pub invariant-loop-i : goal.invariant-loop-i
invariant-loop-i l = Reaped l.shape.slots l.shape.b l.used l.initial.arena l.root l.out l.i l.left l.arena

abbrev pub decreases-loop-i : goal.decreases-loop-i
decreases-loop-i l = length l.out - l.i
