-- Each turn writes the lowest bit that is left of the word. Assumes nothing.
use mathlib.Core.Path.{◌≡◌}
use lib.ListN.{length}
use Rattle.bitvector.proofs.Walking.{Standing}
use Rattle.bitvector.proofs.tiny.walk_word.Given as goal

abbrev pub invariant-loop-left : goal.invariant-loop-left
invariant-loop-left l = (length l.out ≡ length l.initial.out) × Standing l.w l.base l.at-2 l.initial.out l.left l.at l.out

abbrev pub decreases-loop-left : goal.decreases-loop-left
decreases-loop-left l = l.left
