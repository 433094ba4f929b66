-- Document 01, "The region": what the words of a node say. Assumes nothing.
use Rattle.std.specs.Prelude.{ℕ, ◌+◌, ◌*◌, List, get_or}
use Rattle.region.specs.Geometry.{node_words}
use Rattle.region.specs.Bits.{bit_at}

-- word i of node n, in the area of the nodes
abbrev pub node_word : List ℕ → ℕ → ℕ → ℕ
node_word r n i = get_or r (n * node_words + i) 0

-- the nodes, as functions of a node's number
pub record Nodes : Type 0 where
  -- words 0 to 3, a 256-bit map: byte x is bit x mod 64 of word x div 64
  pub bit : ℕ → ℕ → ℕ
  -- word 4: level+1, or 0 if free
  pub level1 : ℕ → ℕ
  -- word 5: the parent node (root: its container; free: its place in the stack)
  pub parent : ℕ → ℕ
  -- word 6: the byte under the parent
  pub byte : ℕ → ℕ
  -- word 8+x: the child for byte x
  pub child : ℕ → ℕ → ℕ

-- what the area of the nodes says
abbrev pub nodes_of : List ℕ → Nodes
nodes_of r =
    record {
      bit = λ n x. bit_at (node_word r n) x;
      level1 = λ n. node_word r n 4;
      parent = λ n. node_word r n 5;
      byte = λ n. node_word r n 6;
      child = λ n x. node_word r n (8 + x);
    }
