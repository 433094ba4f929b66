-- Each list leaves a region for the next, so that one check serves them all. Assumes nothing.
use Rattle.std.proofs.Common.{◌≡◌, ◌-◌, ◌≤◌, length}
use Rattle.region.specs.WellFormed.{WellFormed}
use Rattle.leaves_sets.proofs.leaf_set_run.Given as goal

abbrev pub invariant-loop-i : goal.invariant-loop-i
invariant-loop-i l = WellFormed l.region × ((l.i ≤ length l.words) × ((length l.region ≡ length l.initial.region) × (length l.answers ≡ length l.initial.answers)))

abbrev pub decreases-loop-i : goal.decreases-loop-i
decreases-loop-i l = length l.words - l.i
