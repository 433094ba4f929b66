-- Each node up to the end is looked at once. Assumes nothing.
use Prim.Native.Nat.{ℕ, ◌<◌}
use Rattle.arena.specs.Arena.{nodes_in}
use Rattle.arena_check.specs.Checks.{Hangs}
use Rattle.arena_check.proofs.all_hang.Given as goal

abbrev pub invariant-loop-n : goal.invariant-loop-n
invariant-loop-n l = (m : ℕ) → m < l.n → Hangs l.slots (nodes_in l.slots l.arena) m
