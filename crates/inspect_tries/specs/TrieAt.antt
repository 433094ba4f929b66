-- What a trie may hold, said of its root in the arena: region/specs/WellFormed's Trie without the record of its slot. No promise of an entry cites this. Assumes nothing.
use Rattle.std.specs.Prelude.{ℕ, ◌^◌, ◌<◌, ◌≡◌, true, length}
use Rattle.lists.specs.Lists.{mem}
use Rattle.model.specs.Words.{bytes_of}
use Rattle.region.specs.Nodes.{Nodes}
use Rattle.region.specs.Tries.{members}

-- node n is the root of a trie in slot c, of size suffixes, all below 2^S
pub record TrieAt (v : Nodes) (S n c size : ℕ) : Type 0 where
  pub level : v.level1 n ≡ 1
  pub back : v.parent n ≡ c
  pub small : (s : ℕ) → mem s (members v (bytes_of S) n) ≡ true → s < 2 ^ S
  pub true-size : size ≡ length (members v (bytes_of S) n)
