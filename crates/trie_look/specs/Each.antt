-- What a lookup leaves at its place among the answers. Assumes nothing.
use Rattle.std.specs.Prelude.{ℕ, cond, ltb}
use Rattle.lists.specs.Lists.{mem}
use Rattle.region.specs.Nodes.{Nodes}
use Rattle.region.specs.Tries.{members}

-- a place without a root keeps what it has; else 1 if the suffix is a member of the trie with that root, else 0
abbrev pub answer_at : Nodes → ℕ → ℕ → ℕ → ℕ → ℕ → ℕ
answer_at v slots b r s old = cond (ltb r slots) (cond (mem s (members v b r)) 1 0) old
