-- The arena is lent for reading, so that one check serves every walk. Assumes nothing.
use Rattle.std.proofs.Common.{◌≡◌, length}
use Rattle.leaves.proofs.arenas.leaf_trie_walks.Given as goal

abbrev pub invariant-loop : goal.invariant-loop
invariant-loop l = length l.out ≡ length l.initial.out
