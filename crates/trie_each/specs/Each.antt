-- What inserting several suffixes into one trie does. l is the arena at entry and l' at exit; the members are those of the trie with the root n at entry. No promise of an entry cites this. Assumes nothing.
use Rattle.std.specs.Prelude.{ℕ, ◌+◌, ◌<◌, ◌≤◌, ◌≡◌, List, [], ◌∷◌, length, take, get_or}
use Rattle.lists.specs.Lists.{put}
use Rattle.region.specs.Tries.{members}
use Rattle.arena.specs.Arena.{nodes_in, Became}
use Rattle.trie.specs.Answers.{NoRoomFor}
use Rattle.trie_each.specs.declared.Many.{Many}

-- the suffixes ss put into ms, one after the other
abbrev pub put_each : List ℕ → List ℕ → List ℕ
put_each ms [] = ms
put_each ms (s ∷ ss) = put_each (put s ms) ss

-- the trie has its members and the first `done` suffixes now, `added` of them new, with `used` nodes in use; the next suffix, if there is one, finds no room
pub record InsertedEach (N b used n : ℕ) (ss l : List ℕ) (r : Many) (l' : List ℕ) : Type 0 where
  pub in-range : r.done ≤ length ss
  pub became : Became N b used l n (put_each (members (nodes_in N l) b n) (take r.done ss)) r.used l'
  pub added : length (members (nodes_in N l) b n) + r.added ≡ length (put_each (members (nodes_in N l) b n) (take r.done ss))
  pub full : r.done < length ss → NoRoomFor N b r.used (get_or ss r.done 0) (put_each (members (nodes_in N l) b n) (take r.done ss))
