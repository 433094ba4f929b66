-- The lent part of a region that holds the node free stack (N words) and behind it the nodes (264 words each): what it says, when it is well formed, and what a change may leave. No promise of an entry cites this; the layers below them do. Assumes nothing.
use Rattle.std.specs.Prelude.{ℕ, ◌+◌, ◌-◌, ◌*◌, ◌<◌, ◌≡◌, ◌≢◌, List, length, drop, get_or}
use Rattle.model.specs.Room.{trie_nodes}
use Rattle.region.specs.Geometry.{node_words}
use Rattle.region.specs.Nodes.{Nodes, nodes_of}
use Rattle.region.specs.Tries.{members}
use Rattle.region.specs.WellFormed.{AllNonEmpty, SpareNode, StackedNode, nodes_used}
use Rattle.region.specs.Linked.{Wf}

-- place i of the node free stack
abbrev pub spare_in : List ℕ → ℕ → ℕ
spare_in l i = get_or l i 0

-- the nodes behind a stack of N places
abbrev pub nodes_in : ℕ → List ℕ → Nodes
nodes_in N l = nodes_of (drop N l)

-- node n is the root of a trie
pub record Root (v : Nodes) (N n : ℕ) : Type 0 where
  pub in-range : n < N
  pub level : v.level1 n ≡ 1

-- the nodes of tries of b levels hang together, and no map of a used node is empty
pub record Tries (N b : ℕ) (l : List ℕ) : Type 0 where
  pub long : length l ≡ N + node_words * N
  pub wf : Wf (nodes_in N l) N b
  pub non-empty : AllNonEmpty (nodes_in N l) N

-- and the free ones are stacked: every free node once, linked to its place; used is true
pub record Arena (N b used : ℕ) (l : List ℕ) : Type 0 where
  pub tries : Tries N b l
  pub spare-nodes : (i : ℕ) → i < N - used → SpareNode N (spare_in l) (nodes_in N l) i
  pub stacked-nodes : (n : ℕ) → n < N → (nodes_in N l).level1 n ≡ 0 → StackedNode (N - used) (spare_in l) (nodes_in N l) n
  pub used-true : nodes_used (nodes_in N l) N ≡ used

-- every trie but the one with the root n stays: its root, its container and its suffixes; and no other root is new
pub record OthersStay (v w : Nodes) (N b n : ℕ) : Type 0 where
  pub root : (m : ℕ) → m ≢ n → Root v N m → Root w N m
  pub container : (m : ℕ) → m ≢ n → Root v N m → w.parent m ≡ v.parent m
  pub suffixes : (m : ℕ) → m ≢ n → Root v N m → members w b m ≡ members v b m
  pub no-new : (m : ℕ) → m ≢ n → Root w N m → Root v N m

-- the trie with the root n has the suffixes ss now, under the same container, and uses the nodes that they need; the others stay
pub record Became (N b used : ℕ) (l : List ℕ) (n : ℕ) (ss : List ℕ) (used' : ℕ) (l' : List ℕ) : Type 0 where
  pub arena : Arena N b used' l'
  pub root : Root (nodes_in N l') N n
  pub container : (nodes_in N l').parent n ≡ (nodes_in N l).parent n
  pub suffixes : members (nodes_in N l') b n ≡ ss
  pub others : OthersStay (nodes_in N l) (nodes_in N l') N b n
  pub room : used' + trie_nodes b (members (nodes_in N l) b n) ≡ used + trie_nodes b ss

-- the trie with the root n is gone, and all its nodes are free; the others stay
pub record Vanished (N b used : ℕ) (l : List ℕ) (n used' : ℕ) (l' : List ℕ) : Type 0 where
  pub arena : Arena N b used' l'
  pub free : (nodes_in N l').level1 n ≡ 0
  pub others : OthersStay (nodes_in N l) (nodes_in N l') N b n
  pub room : used' + trie_nodes b (members (nodes_in N l) b n) ≡ used

-- a trie with the root n and the suffixes ss is new, under the container c; the others stay
pub record Planted (N b used : ℕ) (l : List ℕ) (c n : ℕ) (ss : List ℕ) (used' : ℕ) (l' : List ℕ) : Type 0 where
  pub arena : Arena N b used' l'
  pub was_free : (nodes_in N l).level1 n ≡ 0
  pub root : Root (nodes_in N l') N n
  pub container : (nodes_in N l').parent n ≡ c
  pub suffixes : members (nodes_in N l') b n ≡ ss
  pub others : OthersStay (nodes_in N l) (nodes_in N l') N b n
  pub room : used' ≡ used + trie_nodes b ss
