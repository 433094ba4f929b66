-- The conditions on nodes said locally: each node names its neighbours. No promise cites them: they are equal to the document's (proofs/OnePath), and the layers below the entries work with them. Assumes nothing.
use Rattle.std.specs.Prelude.{ℕ, suc, ◌<◌, ◌≤◌, ◌≡◌}
use Rattle.model.specs.Words.{bytes_of}
use Rattle.region.specs.Areas.{Numbers}
use Rattle.region.specs.Nodes.{Nodes}
use Rattle.region.specs.Seen.{Seen}
use Rattle.region.specs.WellFormed.{AllNonEmpty, Children}

-- node n, in use at level l + 1, is named by its parent
pub record Above (v : Nodes) (N l n : ℕ) : Type 0 where
  pub in-range : v.parent n < N
  pub level : v.level1 (v.parent n) ≡ suc l
  pub byte : v.byte n < 256
  pub is_set : v.bit (v.parent n) (v.byte n) ≡ 1
  pub is-child : v.child (v.parent n) (v.byte n) ≡ n

-- N nodes of tries of b levels
pub record Wf (v : Nodes) (N b : ℕ) : Type 0 where
  pub levels : (n : ℕ) → n < N → v.level1 n ≤ b
  pub down : Children v N b
  pub up : (l n : ℕ) → n < N → v.level1 n ≡ suc (suc l) → Above v N l n

-- node n is the root of the trie in the slot that its word 5 names
pub record Rooted (g : Numbers) (v : Seen) (n : ℕ) : Type 0 where
  pub in-range : v.node.parent n < g.C
  pub is-trie : v.kind (v.node.parent n) ≡ 2
  pub is-root : v.link (v.node.parent n) ≡ n

-- the nodes hang together
pub record Linked (g : Numbers) (v : Seen) : Type 0 where
  pub wf : Wf v.node g.N (bytes_of g.S)
  pub non-empty : AllNonEmpty v.node g.N
  pub rooted : (n : ℕ) → n < g.N → v.node.level1 n ≡ 1 → Rooted g v n
