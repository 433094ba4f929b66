-- s is the number that the bytes before j make. Assumes nothing.
use mathlib.Core.Path.{◌≡◌}
use Rattle.sliced_int.specs.Sliced.{number_in}
use Rattle.sliced_int.proofs.SlicedInt.to_int.Given as goal

abbrev pub invariant-loop-x : goal.invariant-loop-x
invariant-loop-x l = l.s ≡ number_in l.x-items l.x-index
