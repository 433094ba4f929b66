-- The invariant: the first i walks are one level on. Assumes nothing.
use Prim.Native.Nat.{ℕ}
use lib.ListN.{get_or}
use Rattle.arena.specs.Arena.{nodes_in}
use Rattle.trie_look.specs.Levels.{step_of, Changed}
use Rattle.trie_look.proofs.level.Given as goal

abbrev pub invariant-loop-i : goal.invariant-loop-i
invariant-loop-i l = Changed (λ (p n : ℕ). step_of (nodes_in l.shape.slots l.arena) l.shape.slots l.shape.b (get_or l.suffixes p 0) l.j n) l.i l.initial.nodes l.nodes
