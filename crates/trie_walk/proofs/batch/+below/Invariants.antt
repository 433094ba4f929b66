-- One level of the walk: the loop's invariant is `Runs`, and each turn is one of its laws. The measure of the recursion is the levels left. Assumes nothing.
use Prim.Native.Nat.{◌+◌, ◌-◌, ◌*◌, ◌/◌}
use lib.ListN.{length}
use Rattle.arena.specs.Arena.{nodes_in}
use Rattle.trie_walk.specs.Pour.{state}
use Rattle.trie_walk.specs.Words.{numbers_in}
use Rattle.trie_walk.specs.Batch.{all_listed}
use Rattle.trie_walk.proofs.Runs.{Runs, ahead}
use Rattle.trie_walk.proofs.batch.+below.Given as goal

-- the levels left
abbrev pub decreases-below : goal.decreases-below
decreases-below l = l.d

abbrev pub invariant-loop-e : goal.invariant-loop-e
invariant-loop-e l = Runs l.slots (l.d - 1) l.count l.from l.arena l.nodes l.leads l.maps (all_listed (nodes_in l.slots l.arena) l.d l.nodes l.leads l.count) (state l.skip-2 l.at-2 l.initial.out) l.out l.children l.behind l.c l.skip l.at l.e 0 0

abbrev pub invariant-loop-w : goal.invariant-loop-w
invariant-loop-w l = Runs l.slots (l.d - 1) l.count l.from l.arena l.nodes l.leads l.maps (ahead l.slots (l.d - 1) l.count l.arena l.nodes l.leads l.maps l.initial.children l.initial.behind l.initial.c (l.e + 1) l.initial.w l.p) (state l.initial.skip l.initial.at l.initial.out) l.out l.children l.behind l.c l.skip l.at (l.e + 1) l.w l.p

-- a push takes a set bit and may fill the row, a flush empties the row
abbrev pub decreases-loop-w : goal.decreases-loop-w
decreases-loop-w l = 2 * length (numbers_in l.w 0) + l.c / 32
