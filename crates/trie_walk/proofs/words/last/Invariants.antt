-- The words from e on are poured as all were; each turn pours word e, or passes it where it has no bit. Assumes nothing.
use mathlib.Core.Path.{◌≡◌}
use Prim.Native.Nat.{◌-◌, ◌*◌, ◌≤◌}
use lib.ListN.{length}
use Rattle.trie_walk.specs.Pour.{state, poured, not_below}
use Rattle.trie_walk.specs.Words.{suffixes}
use Rattle.trie_walk.proofs.Numbers.{suffixes_from}
use Rattle.trie_walk.proofs.words.last.Given as goal

abbrev pub invariant-loop-e : goal.invariant-loop-e
invariant-loop-e l = (l.e ≤ 4 * l.count) × (length l.out ≡ length l.initial.out) × (poured (not_below l.from (suffixes_from l.maps l.leads (4 * l.count) l.e)) (state l.skip l.at l.out) ≡ poured (not_below l.from (suffixes l.maps l.leads l.count)) (state l.skip-2 l.at-2 l.initial.out))

abbrev pub decreases-loop-e : goal.decreases-loop-e
decreases-loop-e l = 4 * l.count - l.e
