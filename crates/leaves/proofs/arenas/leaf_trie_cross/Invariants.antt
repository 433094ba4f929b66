-- The arena is what it was after each time, so that one check serves all. Assumes nothing.
use Rattle.std.proofs.Common.{◌≡◌, length}
use Rattle.arena.specs.Arena.{Arena}
use Rattle.leaves.proofs.arenas.leaf_trie_cross.Given as goal

abbrev pub invariant-loop-i : goal.invariant-loop-i
invariant-loop-i l = Arena l.shape.slots l.shape.b l.used l.arena × (length l.arena ≡ length l.initial.arena) × (length l.out ≡ length l.initial.out)
