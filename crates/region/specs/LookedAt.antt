-- What is looked at, said as a relation: two regions with the same numbers that differ only in words that are not looked at (docs/FREEDOM.md; renumbered nodes and the order of the node stack are its other part). Assumes nothing.
use Rattle.std.specs.Prelude.{ℕ, suc, ◌-◌, ◌<◌, ◌≡◌, ◌≢◌}
use Rattle.model.specs.Words.{bytes_of}
use Rattle.region.specs.Areas.{Numbers}
use Rattle.region.specs.Nodes.{Nodes}
use Rattle.region.specs.Seen.{Seen}

-- nodes: word 7, the maps and children of free nodes, the root's and a free node's byte, children of clear bits and of the last level are not looked at
pub record SameLookedAtNodes (N b : ℕ) (v w : Nodes) : Type 0 where
  pub level1 : (n : ℕ) → n < N → w.level1 n ≡ v.level1 n
  pub parent : (n : ℕ) → n < N → w.parent n ≡ v.parent n
  -- the byte of a node below the root
  pub byte : (l n : ℕ) → n < N → v.level1 n ≡ suc (suc l) → w.byte n ≡ v.byte n
  -- the map of a node in use
  pub bit : (n x : ℕ) → n < N → v.level1 n ≢ 0 → x < 256 → w.bit n x ≡ v.bit n x
  -- the child for a set bit above the last level
  pub child : (l n x : ℕ) → n < N → v.level1 n ≡ suc l → suc l < b → x < 256 → v.bit n x ≡ 1 → w.child n x ≡ v.child n x

-- the rest: rank places from k on, stack places past the free ones, a free record's prefix and length, a vector's link, entries past a vector's length and those of a trie or a free slot are not looked at
pub record SameLookedAt (g : Numbers) (v w : Seen) : Type 0 where
  pub bit : (p : ℕ) → w.bit p ≡ v.bit p
  pub slot : (r : ℕ) → r < g.k → w.slot r ≡ v.slot r
  pub free : (i : ℕ) → i < g.C - g.k → w.free i ≡ v.free i
  pub kind : (c : ℕ) → c < g.C → w.kind c ≡ v.kind c
  pub prefix : (c : ℕ) → c < g.C → v.kind c ≢ 0 → w.prefix c ≡ v.prefix c
  pub size : (c : ℕ) → c < g.C → v.kind c ≢ 0 → w.size c ≡ v.size c
  pub link : (c : ℕ) → c < g.C → v.kind c ≢ 1 → w.link c ≡ v.link c
  pub entry : (c i : ℕ) → c < g.C → v.kind c ≡ 1 → i < v.size c → w.entry c i ≡ v.entry c i
  pub spare : (i : ℕ) → i < g.N - g.used → w.spare i ≡ v.spare i
  pub nodes : SameLookedAtNodes g.N (bytes_of g.S) v.node w.node
