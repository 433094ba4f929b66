-- What the answers of the trie's functions say. l is the arena at entry and l' at exit; the members are those of the trie with the root n at entry. Assumes nothing.
use Rattle.std.specs.Prelude.{ℕ, ◌+◌, ◌<◌, ◌≡◌, true, false, List, [], ◌∷◌, Option, Some, None, Result, Ok, Err}
use Rattle.lists.specs.Lists.{mem, put, without}
use Rattle.model.specs.Room.{trie_nodes}
use Rattle.region.specs.Tries.{members}
use Rattle.arena.specs.Arena.{nodes_in, Became, Vanished}
use Rattle.arena.specs.declared.NoRoom.{NoRoom}
use Rattle.trie.specs.declared.Removed.{Removed}
use Rattle.trie.specs.declared.Removed.TheVariants.{Gone, Last, Absent}

-- s is none of the members ms of a trie, and the nodes that they need with s pass what is there
abbrev pub NoRoomFor : ℕ → ℕ → ℕ → ℕ → List ℕ → Type 0
NoRoomFor N b used s ms = (mem s ms ≡ false) × (N + trie_nodes b ms < used + trie_nodes b (put s ms))

-- s was new and is a member now, with used' nodes in use; it was one already; or the nodes that the members with s need pass what is there. But for the first nothing is changed
abbrev pub InsertedAs : ℕ → ℕ → ℕ → ℕ → ℕ → List ℕ → Result (Option ℕ) NoRoom → List ℕ → Type 0
InsertedAs N b used n s l (Ok (Some used')) l' = (mem s (members (nodes_in N l) b n) ≡ false) × Became N b used l n (put s (members (nodes_in N l) b n)) used' l'
InsertedAs N b used n s l (Ok None) l' = (mem s (members (nodes_in N l) b n) ≡ true) × (l' ≡ l)
InsertedAs N b used n s l (Err e) l' = NoRoomFor N b used s (members (nodes_in N l) b n) × (l' ≡ l)

-- s was a member and is none now, with used' nodes in use and others left; it was the last one, and the trie is gone; or it was none, and nothing is changed
abbrev pub RemovedAs : ℕ → ℕ → ℕ → ℕ → ℕ → List ℕ → Removed → List ℕ → Type 0
RemovedAs N b used n s l (Gone used') l' = (mem s (members (nodes_in N l) b n) ≡ true) × Became N b used l n (without s (members (nodes_in N l) b n)) used' l'
RemovedAs N b used n s l (Last used') l' = (members (nodes_in N l) b n ≡ s ∷ []) × Vanished N b used l n used' l'
RemovedAs N b used n s l Absent l' = (mem s (members (nodes_in N l) b n) ≡ false) × (l' ≡ l)
