-- The invariant: the first i answers are told. Assumes nothing.
use Prim.Native.Nat.{ℕ}
use lib.ListN.{get_or}
use Rattle.arena.specs.Arena.{nodes_in}
use Rattle.trie_look.specs.Levels.{tell_of, Changed}
use Rattle.trie_look.proofs.tell.Given as goal

abbrev pub invariant-loop-i : goal.invariant-loop-i
invariant-loop-i l = Changed (λ (p old : ℕ). tell_of (nodes_in l.shape.slots l.arena) l.shape.slots l.shape.b (get_or l.roots p 0) (get_or l.suffixes p 0) (get_or l.nodes p 0) old) l.i l.initial.answers l.answers
