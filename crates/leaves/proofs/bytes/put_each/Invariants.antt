-- What is written ends inside. Assumes nothing.
use Rattle.std.proofs.Common.{◌≤◌, length}
use Rattle.leaves.proofs.bytes.put_each.Given as goal

abbrev pub invariant-loop-i : goal.invariant-loop-i
invariant-loop-i g l = l.at ≤ length l.out
