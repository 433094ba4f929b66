-- What the answer of plant says. l is the arena at entry and l' at exit. Assumes nothing.
use Rattle.std.specs.Prelude.{ℕ, ◌+◌, ◌<◌, ◌≡◌, List, Result, Ok, Err}
use Rattle.lists.specs.Lists.{sorted}
use Rattle.model.specs.Room.{trie_nodes}
use Rattle.arena.specs.Arena.{Planted}
use Rattle.arena.specs.declared.NoRoom.{NoRoom}

-- a trie of the suffixes ss is there now, under the container c, with used' nodes in use; or the nodes that they need pass what is there, and nothing is changed
abbrev pub PlantedAs : ℕ → ℕ → ℕ → ℕ → List ℕ → List ℕ → Result (ℕ × ℕ) NoRoom → List ℕ → Type 0
PlantedAs N b used c ss l (Ok (n, used')) l' = Planted N b used l c n (sorted ss) used' l'
PlantedAs N b used c ss l (Err e) l' = (N < used + trie_nodes b ss) × (l' ≡ l)
