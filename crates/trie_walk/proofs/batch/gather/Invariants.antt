-- The maps of the nodes passed stand side by side. Assumes nothing.
use mathlib.Core.Path.{◌≡◌}
use Prim.Native.Nat.{ℕ, ◌*◌, ◌/◌, ◌%◌, ◌<◌}
use lib.ListN.{length, drop, get_or}
use Rattle.region.specs.Nodes.{node_word}
use Rattle.trie_walk.proofs.batch.gather.Given as goal

abbrev pub invariant-loop-i : goal.invariant-loop-i
invariant-loop-i l = (length l.maps ≡ 128) × ((e : ℕ) → e < 4 * l.i → get_or l.maps e 0 ≡ node_word (drop l.slots l.arena) (get_or l.nodes (e / 4) 0) (e % 4))
