-- A root with an empty map, then down a node at a time, and the last bit. Assumes nothing.
use Prim.Native.Nat.{◌+◌}
use Rattle.trie.proofs.Growing.{Growing}
use Rattle.trie_pour.proofs.plant_one.Given as goal

abbrev pub invariant-loop-j : goal.invariant-loop-j
invariant-loop-j l = Growing l.slots l.b (l.used + 1) l.initial.arena l.root l.suffix 0 l.left l.arena l.n l.j
