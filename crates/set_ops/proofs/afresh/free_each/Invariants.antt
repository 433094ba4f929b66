-- `free_each` meets its contract: before round i the first i nodes are free, each linked to its place. Assumes nothing.
use Rattle.std.proofs.Common.{◌≡◌, ℕ, ◌-◌, ◌*◌, ◌<◌, ◌≤◌, length}
use Rattle.region.specs.Nodes.{nodes_of}
use Rattle.set_ops.proofs.afresh.free_each.Given as goal

abbrev pub invariant-loop-i : goal.invariant-loop-i
invariant-loop-i l = (l.i ≤ l.n) × (length l.s ≡ 264 * l.n) × ((j : ℕ) → j < l.i → (nodes_of l.s).level1 j ≡ 0) × ((j : ℕ) → j < l.i → (nodes_of l.s).parent j ≡ l.n - 1 - j)
