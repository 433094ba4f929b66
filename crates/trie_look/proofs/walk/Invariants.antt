-- The invariant: each walk is where the first j bytes lead. Assumes nothing.
use Prim.Native.Nat.{ℕ}
use lib.ListN.{length, get_or}
use Rattle.arena.specs.Arena.{nodes_in}
use Rattle.trie_look.specs.Levels.{reach, Changed}
use Rattle.trie_look.proofs.walk.Given as goal

abbrev pub invariant-loop-j : goal.invariant-loop-j
invariant-loop-j l = Changed (λ (p n : ℕ). reach (nodes_in l.shape.slots l.arena) l.shape.slots l.shape.b (get_or l.suffixes p 0) l.j n) (length l.suffixes) l.initial.nodes l.nodes
