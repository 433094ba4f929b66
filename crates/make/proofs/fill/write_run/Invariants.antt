-- `write_run` meets its contract: the zeros are k blank blocks, and each store turns the next of them into its marked one. Assumes nothing.
use mathlib.Core.Path.{◌≡◌}
use mathlib.Core.List.{List}
use Prim.Native.Nat.{ℕ, ◌+◌, ◌-◌, ◌*◌}
use lib.ListN.{length}
use Rattle.lists.specs.Lists.{blocks}
use Rattle.region.specs.Fresh.{zeros}
use Rattle.make.specs.Marked.{marked}
use Rattle.make.proofs.Filling.{toward}
use Rattle.make.proofs.fill.write_run.Given as goal

-- the blocks of the run, and what they are marked on
abbrev pub run : ℕ → ℕ → ℕ → ℕ → List ℕ
run w at k top = blocks (λ j. marked w at (top - k + j)) k

abbrev pub bare : ℕ → ℕ → List ℕ
bare w k = blocks (λ j. zeros w) k

abbrev pub invariant-loop-i : goal.invariant-loop-i
invariant-loop-i l = (length l.s ≡ l.w * l.k) × (l.s ≡ toward (run l.w l.at l.k l.top) (bare l.w l.k) (l.w * l.i))
