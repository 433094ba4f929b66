-- The three ways in which a well-formed region changes, as what is seen of it before and after: a container is refilled, a container is opened, a container is closed. Every insert and remove is one of them. No promise cites them: they are proved to keep a region well formed and to change its reading as document 01 says. Assumes nothing.
use Rattle.std.specs.Prelude.{ℕ, suc, ◌-◌, ◌^◌, ◌<◌, ◌≤◌, ◌≡◌, ◌≢◌, List}
use Rattle.lists.specs.Lists.{up_to}
use Rattle.model.specs.Words.{bytes_of}
use Rattle.region.specs.Areas.{Numbers}
use Rattle.region.specs.Tries.{members}
use Rattle.region.specs.Seen.{Seen}
use Rattle.region.specs.WellFormed.{Vector, Trie, AllNonEmpty, SpareNode, StackedNode, nodes_used, rank_of}
use Rattle.region.specs.Linked.{Wf, Rooted}

-- the same region with other counts
abbrev pub counted : Numbers → ℕ → ℕ → ℕ → Numbers
counted g k used count = record { P = g.P; S = g.S; C = g.C; N = g.N; k = k; used = used; count = count }

-- slot c holds the suffixes ss, as a vector or as a trie
pub data Holds (g : Numbers) (w : Seen) (c : ℕ) (ss : List ℕ) : Type 0 where
  vector : w.kind c ≡ 1 → Vector g w c → up_to (w.entry c) (w.size c) ≡ ss → Holds g w c ss
  trie : w.kind c ≡ 2 → Trie g w c → members w.node (bytes_of g.S) (w.link c) ≡ ss → Holds g w c ss

-- every record but that of slot c stays, with its entries, where they are looked at
pub record OtherRecords (g : Numbers) (v w : Seen) (c : ℕ) : Type 0 where
  pub kind : (d : ℕ) → d < g.C → d ≢ c → w.kind d ≡ v.kind d
  pub prefix : (d : ℕ) → d < g.C → d ≢ c → v.kind d ≢ 0 → w.prefix d ≡ v.prefix d
  pub size : (d : ℕ) → d < g.C → d ≢ c → v.kind d ≢ 0 → w.size d ≡ v.size d
  pub link : (d : ℕ) → d < g.C → d ≢ c → v.kind d ≢ 1 → w.link d ≡ v.link d
  pub entry : (d i : ℕ) → d < g.C → d ≢ c → v.kind d ≡ 1 → i < v.size d → w.entry d i ≡ v.entry d i

-- the nodes are well formed with used' in use, and the tries in other slots than c stay
pub record NodesFor (g : Numbers) (v w : Seen) (c used' : ℕ) : Type 0 where
  pub wf : Wf w.node g.N (bytes_of g.S)
  pub non-empty : AllNonEmpty w.node g.N
  pub rooted : (n : ℕ) → n < g.N → w.node.level1 n ≡ 1 → Rooted g w n
  pub others-root : (d : ℕ) → d < g.C → d ≢ c → v.kind d ≡ 2 → w.node.level1 (v.link d) ≡ 1
  pub others-container : (d : ℕ) → d < g.C → d ≢ c → v.kind d ≡ 2 → w.node.parent (v.link d) ≡ d
  pub others-suffixes : (d : ℕ) → d < g.C → d ≢ c → v.kind d ≡ 2 → members w.node (bytes_of g.S) (v.link d) ≡ members v.node (bytes_of g.S) (v.link d)
  pub spare-nodes : (i : ℕ) → i < g.N - used' → SpareNode g.N w.spare w.node i
  pub stacked-nodes : (n : ℕ) → n < g.N → w.node.level1 n ≡ 0 → StackedNode (g.N - used') w.spare w.node n
  pub used-true : nodes_used w.node g.N ≡ used'

-- slot c, which is in use, holds the suffixes ss afterwards; prefixes, ranks, slots and all other containers stay
pub record Refilled (g : Numbers) (v w : Seen) (c : ℕ) (ss : List ℕ) (used' : ℕ) : Type 0 where
  pub in-range : c < g.C
  pub in_use : v.kind c ≢ 0
  pub bit : (p : ℕ) → w.bit p ≡ v.bit p
  pub slot : (r : ℕ) → r < g.k → w.slot r ≡ v.slot r
  pub free : (i : ℕ) → i < g.C - g.k → w.free i ≡ v.free i
  pub prefix : w.prefix c ≡ v.prefix c
  pub holds : Holds g w c ss
  pub others : OtherRecords g v w c
  pub nodes : NodesFor g v w c used'

-- slot c, the next free one, becomes a vector with the prefix p, which was not set, and the one suffix s; nodes are untouched
pub record Opened (g : Numbers) (v w : Seen) (c p s : ℕ) : Type 0 where
  pub some-free : g.k < g.C
  pub next : v.free (g.C - suc g.k) ≡ c
  pub prefix-small : p < 2 ^ g.P
  pub was-clear : v.bit p ≡ 0
  pub suffix-small : s < 2 ^ g.S
  pub bit-here : w.bit p ≡ 1
  pub bit-else : (q : ℕ) → q ≢ p → w.bit q ≡ v.bit q
  pub slot-below : (r : ℕ) → r < rank_of g v p → w.slot r ≡ v.slot r
  pub slot-here : w.slot (rank_of g v p) ≡ c
  pub slot-above : (r : ℕ) → rank_of g v p ≤ r → r < g.k → w.slot (suc r) ≡ v.slot r
  pub free : (i : ℕ) → i < g.C - suc g.k → w.free i ≡ v.free i
  pub kind : w.kind c ≡ 1
  pub prefix : w.prefix c ≡ p
  pub size : w.size c ≡ 1
  pub entry : w.entry c 0 ≡ s
  pub others : OtherRecords g v w c
  pub spare : (i : ℕ) → w.spare i ≡ v.spare i
  pub node : w.node ≡ v.node

-- slot c, a vector of one suffix, becomes free and goes on top of the stack; its prefix is cleared and its rank place closed; nodes are untouched
pub record Closed (g : Numbers) (v w : Seen) (c : ℕ) : Type 0 where
  pub in-range : c < g.C
  pub was-vector : v.kind c ≡ 1
  pub was-one : v.size c ≡ 1
  pub bit-here : w.bit (v.prefix c) ≡ 0
  pub bit-else : (q : ℕ) → q ≢ v.prefix c → w.bit q ≡ v.bit q
  pub slot-below : (r : ℕ) → r < rank_of g v (v.prefix c) → w.slot r ≡ v.slot r
  pub slot-above : (r : ℕ) → rank_of g v (v.prefix c) ≤ r → suc r < g.k → w.slot r ≡ v.slot (suc r)
  pub free-here : w.free (g.C - g.k) ≡ c
  pub free-else : (i : ℕ) → i < g.C - g.k → w.free i ≡ v.free i
  pub kind : w.kind c ≡ 0
  pub link : w.link c ≡ g.C - g.k
  pub others : OtherRecords g v w c
  pub spare : (i : ℕ) → w.spare i ≡ v.spare i
  pub node : w.node ≡ v.node
