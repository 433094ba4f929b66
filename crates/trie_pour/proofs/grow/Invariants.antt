-- The members are the suffixes from place i on. Assumes nothing.
use Prim.Native.Nat.{◌<◌}
use lib.ListN.{length, drop}
use Rattle.lists.specs.Lists.{sorted}
use Rattle.arena.specs.Arena.{Became}
use Rattle.trie_pour.proofs.grow.Given as goal

abbrev pub invariant-loop-i : goal.invariant-loop-i
invariant-loop-i l = (l.i < length l.strip) × Became l.shape.slots l.shape.b l.used l.initial.arena l.root (sorted (drop l.i l.strip)) l.left l.arena
