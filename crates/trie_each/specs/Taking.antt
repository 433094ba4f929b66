-- What inserting one suffix of several does; l is the arena at entry and l' at exit. No promise of an entry cites this. Assumes nothing.
use Rattle.std.specs.Prelude.{ℕ, ◌+◌, ◌-◌, ◌/◌, ◌≤◌, ◌≡◌, if◌then◌else◌, List, length, get_or, Option, IfSome, IsSome, is_some, unwrap_or, Result, Ok, Err}
use Rattle.lists.specs.Lists.{put}
use Rattle.region.specs.Nodes.{Nodes}
use Rattle.region.specs.Tries.{members}
use Rattle.arena.specs.Arena.{nodes_in, Became}
use Rattle.trie.specs.Walked.{Walked}
use Rattle.trie.specs.Answers.{NoRoomFor}
use Rattle.arena.specs.declared.NoRoom.{NoRoom}
use Rattle.trie_each.specs.declared.One.{One}

-- the suffix at place i has the bytes of the one before it, but for its last two
pub record Beside (ss : List ℕ) (i : ℕ) : Type 0 where
  pub later : 1 ≤ i
  pub same : get_or ss i 0 / 65536 ≡ get_or ss (i - 1) 0 / 65536

-- if a node is given, b is 2 or more, and all but the last two bytes of s lead to it
abbrev pub NodeAbove : Nodes → ℕ → ℕ → ℕ → Option ℕ → Type 0
NodeAbove v root s b above = IfSome above (λ n. (2 ≤ b) × Walked v root s b n (b - 2))

-- an insert's answer for which there was room, where used nodes were in use, with the node above passed on
abbrev pub Told : ℕ → Option ℕ → Option ℕ → One → Type 0
Told used above d r = (r.new ≡ is_some d) × (r.used ≡ unwrap_or d used) × (r.above ≡ above)

-- s is a member now, and `new` says whether there is one more. The node above it is told wherever there are two levels or more.
pub record Took (N b used root s : ℕ) (l : List ℕ) (r : One) (l' : List ℕ) : Type 0 where
  pub became : Became N b used l root (put s (members (nodes_in N l) b root)) r.used l'
  pub grown : length (members (nodes_in N l) b root) + (if r.new then 1 else 0) ≡ length (put s (members (nodes_in N l) b root))
  pub above : NodeAbove (nodes_in N l') root s b r.above
  pub told : 2 ≤ b → IsSome r.above

-- that; or s finds no room, and nothing is changed
abbrev pub TookAs : ℕ → ℕ → ℕ → ℕ → ℕ → List ℕ → Result One NoRoom → List ℕ → Type 0
TookAs N b used root s l (Ok r) l' = Took N b used root s l r l'
TookAs N b used root s l (Err e) l' = NoRoomFor N b used s (members (nodes_in N l) b root) × (l' ≡ l)
