-- What the answer of drain says. l is the arena at entry and l' at exit, and out the output at exit; the members are those of the trie with the root n at entry. No promise cites this. Assumes nothing.
use Rattle.std.specs.Prelude.{ℕ, ◌≡◌, true, false, List, Option, Some, None}
use Rattle.lists.specs.Lists.{mem, without}
use Rattle.region.specs.Tries.{members}
use Rattle.arena.specs.Arena.{nodes_in, Vanished}

-- s was a member, the trie is gone with used' nodes in use, and the output is the other members; or s was none, and the arena is not changed
abbrev pub DrainedAs : ℕ → ℕ → ℕ → ℕ → ℕ → List ℕ → Option ℕ → List ℕ → List ℕ → Type 0
DrainedAs N b used n s l (Some used') l' out = (mem s (members (nodes_in N l) b n) ≡ true) × Vanished N b used l n used' l' × (out ≡ without s (members (nodes_in N l) b n))
DrainedAs N b used n s l None l' out = (mem s (members (nodes_in N l) b n) ≡ false) × (l' ≡ l)
