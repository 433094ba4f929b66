-- What a run of commands keeps. Assumes nothing.
use Rattle.std.specs.Prelude.{ℕ, List}
use Rattle.arena.specs.Arena.{nodes_in, Root, Arena}

-- the arena is well formed with used nodes in use, and n is the root of a trie
pub record Kept (N b n used : ℕ) (l : List ℕ) : Type 0 where
  pub arena : Arena N b used l
  pub root : Root (nodes_in N l) N n
