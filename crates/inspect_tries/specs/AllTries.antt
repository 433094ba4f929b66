-- What the check of the tries tells of a region: each slot of kind 2 has its trie, and each root its slot. No promise of an entry cites this. Assumes nothing.
use Rattle.std.specs.Prelude.{ℕ, ◌<◌, ◌≡◌}
use Rattle.region.specs.Areas.{Numbers}
use Rattle.region.specs.Seen.{Seen}
use Rattle.region.specs.WellFormed.{Trie}
use Rattle.region.specs.Linked.{Rooted}

-- every trie holds what a trie may hold, and every root is that of the trie in the slot that its word 5 names
abbrev pub AllTries : Numbers → Seen → Type 0
AllTries g v = ((c : ℕ) → c < g.C → v.kind c ≡ 2 → Trie g v c) × ((n : ℕ) → n < g.N → v.node.level1 n ≡ 1 → Rooted g v n)
