-- The region is lent for reading, so that one check serves every walk. Assumes nothing.
use Rattle.std.proofs.Common.{◌≡◌, length}
use Rattle.leaves_sets.proofs.leaf_set_walk.Given as goal

abbrev pub invariant-loop : goal.invariant-loop
invariant-loop l = length l.out ≡ length l.initial.out
