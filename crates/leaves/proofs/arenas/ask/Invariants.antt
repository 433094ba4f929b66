-- A part of the suffixes is as narrow as all of them, and every root is the same one. Assumes nothing.
use Rattle.std.proofs.Common.{◌≡◌, ◌-◌, ◌≤◌, length}
use Rattle.leaves.proofs.arenas.ask.Given as goal

abbrev pub invariant-loop-i : goal.invariant-loop-i
invariant-loop-i l = (l.i ≤ length l.suffixes) × (length l.answers ≡ length l.initial.answers)

abbrev pub decreases-loop-i : goal.decreases-loop-i
decreases-loop-i l = length l.suffixes - l.i
