-- What the answers of a container that changes its kind say. l is the region at entry and l' at exit; the suffixes are those of slot c at entry. Assumes nothing.
use Rattle.std.specs.Prelude.{ℕ, ◌+◌, ◌<◌, ◌≡◌, List, [], ◌∷◌, ◌++◌, Result, Ok, Err}
use Rattle.lists.specs.Lists.{sorted}
use Rattle.model.specs.Words.{bytes_of}
use Rattle.model.specs.Room.{trie_nodes}
use Rattle.region.specs.Areas.{numbers}
use Rattle.arena.specs.declared.NoRoom.{NoRoom}
use Rattle.wordset_trie.specs.Answers.{held_in, ReadsWith}

-- the suffixes with s are a trie's, ascending; or the nodes that they need pass what is there, and nothing is changed
abbrev pub GrownAs : ℕ → ℕ → List ℕ → Result (Unit {0}) NoRoom → List ℕ → Type 0
GrownAs c s l (Ok u) l' = ReadsWith c (sorted (held_in c l ++ (s ∷ []))) l l'
GrownAs c s l (Err e) l' = ((numbers l).N < (numbers l).used + trie_nodes (bytes_of (numbers l).S) (held_in c l ++ (s ∷ []))) × (l' ≡ l)
