-- The trie is kept by each command. Assumes nothing.
use Rattle.std.proofs.Common.{◌≡◌, ◌*◌, ◌^◌, length}
use Rattle.leaves.specs.Kept.{Kept}
use Rattle.leaves.proofs.tries.run.Given as goal

abbrev pub invariant-loop-i : goal.invariant-loop-i
invariant-loop-i l = Kept l.shape.slots l.shape.b l.root l.left l.arena × (length l.answers ≡ length l.initial.answers) × (l.end ≡ 2 ^ (8 * l.shape.b))
