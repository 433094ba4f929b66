-- The words passed are 0; the first that is not has a bit set. Assumes nothing.
use mathlib.Core.Path.{◌≡◌}
use Prim.Native.Nat.{ℕ, ◌<◌}
use lib.ListN.{drop}
use Rattle.region.specs.Nodes.{node_word}
use Rattle.arena.proofs.read.is_empty.Given as goal

abbrev pub invariant-loop-i : goal.invariant-loop-i
invariant-loop-i l = (k : ℕ) → k < l.i → node_word (drop l.slots l.arena) l.n k ≡ 0
