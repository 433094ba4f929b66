-- n nodes for the lengths below j: with no byte there is the root. Assumes nothing.
use mathlib.Core.Path.{◌≡◌}
use Prim.Native.Nat.{◌*◌, ◌≤◌}
use Rattle.lists.specs.Sums.{sum}
use Rattle.model.specs.Room.{leading}
use Rattle.trie_pour.proofs.room.nodes.Given as goal

abbrev pub invariant-loop-j : goal.invariant-loop-j
invariant-loop-j l = (1 ≤ l.j) × (l.j ≤ l.b) × (l.n ≡ sum (leading l.b l.strip) l.j) × (l.n ≤ 1025 * l.j)
