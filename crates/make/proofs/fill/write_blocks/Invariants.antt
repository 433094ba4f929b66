-- `write_blocks` meets its contract: with `left` blocks yet to be written, the slice is the target up to block n - left, and as it was from there. Assumes nothing.
use mathlib.Core.Path.{◌≡◌}
use Prim.Native.Nat.{◌-◌, ◌*◌, ◌≤◌}
use lib.ListN.{length}
use Rattle.lists.specs.Lists.{blocks}
use Rattle.make.specs.Marked.{marked}
use Rattle.make.proofs.Filling.{toward}
use Rattle.make.proofs.fill.write_blocks.Given as goal

abbrev pub invariant-loop-left : goal.invariant-loop-left
invariant-loop-left l = (l.left ≤ l.n) × (l.from ≡ l.w * (l.n - l.left)) × (length l.s ≡ l.w * l.n) × (l.s ≡ toward (blocks (marked l.w l.at) l.n) l.initial.s l.from)

abbrev pub decreases-loop-left : goal.decreases-loop-left
decreases-loop-left l = l.left
