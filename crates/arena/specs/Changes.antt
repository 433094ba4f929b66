-- What a store into the arena does, read by what the words say: each record names what is changed and says that all else stays.
-- The bytes of a map and of a node's children are those below 256. No promise of an entry cites this. Assumes nothing.
use Rattle.std.specs.Prelude.{ℕ, suc, ◌<◌, ◌≡◌, ◌≢◌, List, drop}
use Rattle.region.specs.Geometry.{node_words}
use Rattle.region.specs.Nodes.{Nodes, node_word}
use Rattle.arena.specs.Arena.{spare_in}

-- the stack of N places stays
abbrev pub SpareStays : ℕ → List ℕ → List ℕ → Type 0
SpareStays N l l' = (k : ℕ) → k < N → spare_in l' k ≡ spare_in l k

-- place k of the stack holds f now, and the other places stay
pub record Pushed (N : ℕ) (l : List ℕ) (k f : ℕ) (l' : List ℕ) : Type 0 where
  pub here : spare_in l' k ≡ f
  pub else : (i : ℕ) → i < N → i ≢ k → spare_in l' i ≡ spare_in l i

-- word i of node n is a now, and the other words stay
pub record WordPut (N : ℕ) (l : List ℕ) (n i a : ℕ) (l' : List ℕ) : Type 0 where
  pub here : node_word (drop N l') n i ≡ a
  pub else : (m j : ℕ) → j < node_words → ((m ≡ n) × (j ≡ i) → ⊥) → node_word (drop N l') m j ≡ node_word (drop N l) m j
  pub spare : SpareStays N l l'

-- w is v with bit x of node n made d
pub record BitMade (v : Nodes) (n x d : ℕ) (w : Nodes) : Type 0 where
  pub here : w.bit n x ≡ d
  pub else : (m y : ℕ) → y < 256 → ((m ≡ n) × (y ≡ x) → ⊥) → w.bit m y ≡ v.bit m y
  pub child : (m y : ℕ) → y < 256 → w.child m y ≡ v.child m y
  pub level : (m : ℕ) → w.level1 m ≡ v.level1 m
  pub parent : (m : ℕ) → w.parent m ≡ v.parent m
  pub byte : (m : ℕ) → w.byte m ≡ v.byte m

-- w is v with f made the child of n for byte x
pub record ChildMade (v : Nodes) (n x f : ℕ) (w : Nodes) : Type 0 where
  pub here : w.child n x ≡ f
  pub else : (m y : ℕ) → y < 256 → ((m ≡ n) × (y ≡ x) → ⊥) → w.child m y ≡ v.child m y
  pub bit : (m y : ℕ) → y < 256 → w.bit m y ≡ v.bit m y
  pub level : (m : ℕ) → w.level1 m ≡ v.level1 m
  pub parent : (m : ℕ) → w.parent m ≡ v.parent m
  pub byte : (m : ℕ) → w.byte m ≡ v.byte m

-- w is v with node f made anew: an empty map, its word 4 e, its back link to p and x
pub record NodeMade (v : Nodes) (f e p x : ℕ) (w : Nodes) : Type 0 where
  pub bit-new : (y : ℕ) → y < 256 → w.bit f y ≡ 0
  pub bit-else : (m y : ℕ) → y < 256 → m ≢ f → w.bit m y ≡ v.bit m y
  pub child : (m y : ℕ) → y < 256 → w.child m y ≡ v.child m y
  pub level-new : w.level1 f ≡ e
  pub level-else : (m : ℕ) → m ≢ f → w.level1 m ≡ v.level1 m
  pub parent-new : w.parent f ≡ p
  pub parent-else : (m : ℕ) → m ≢ f → w.parent m ≡ v.parent m
  pub byte-new : w.byte f ≡ x
  pub byte-else : (m : ℕ) → m ≢ f → w.byte m ≡ v.byte m

-- w is v with f, its map empty and its level l, hung under n for byte x
pub record Hung (v : Nodes) (n x f l : ℕ) (w : Nodes) : Type 0 where
  pub bit-here : w.bit n x ≡ 1
  pub bit-new : (y : ℕ) → y < 256 → w.bit f y ≡ 0
  pub bit-else : (m y : ℕ) → y < 256 → m ≢ f → ((m ≡ n) × (y ≡ x) → ⊥) → w.bit m y ≡ v.bit m y
  pub child-here : w.child n x ≡ f
  pub child-else : (m y : ℕ) → y < 256 → ((m ≡ n) × (y ≡ x) → ⊥) → w.child m y ≡ v.child m y
  pub level-new : w.level1 f ≡ suc l
  pub level-else : (m : ℕ) → m ≢ f → w.level1 m ≡ v.level1 m
  pub parent-new : w.parent f ≡ n
  pub parent-else : (m : ℕ) → m ≢ f → w.parent m ≡ v.parent m
  pub byte-new : w.byte f ≡ x
  pub byte-else : (m : ℕ) → m ≢ f → w.byte m ≡ v.byte m

-- w is v with node f made free, linked to its place k in the stack
pub record Freed (v : Nodes) (f k : ℕ) (w : Nodes) : Type 0 where
  pub bit : (m y : ℕ) → y < 256 → w.bit m y ≡ v.bit m y
  pub child : (m y : ℕ) → y < 256 → w.child m y ≡ v.child m y
  pub level-new : w.level1 f ≡ 0
  pub level-else : (m : ℕ) → m ≢ f → w.level1 m ≡ v.level1 m
  pub parent-new : w.parent f ≡ k
  pub parent-else : (m : ℕ) → m ≢ f → w.parent m ≡ v.parent m
  pub byte : (m : ℕ) → w.byte m ≡ v.byte m

-- w is v with bit x of node p cleared and node f made free, linked to its place k in the stack
pub record Unhung (v : Nodes) (p x f k : ℕ) (w : Nodes) : Type 0 where
  pub bit-here : w.bit p x ≡ 0
  pub bit-else : (m y : ℕ) → y < 256 → ((m ≡ p) × (y ≡ x) → ⊥) → w.bit m y ≡ v.bit m y
  pub child : (m y : ℕ) → y < 256 → w.child m y ≡ v.child m y
  pub level-new : w.level1 f ≡ 0
  pub level-else : (m : ℕ) → m ≢ f → w.level1 m ≡ v.level1 m
  pub parent-new : w.parent f ≡ k
  pub parent-else : (m : ℕ) → m ≢ f → w.parent m ≡ v.parent m
  pub byte : (m : ℕ) → w.byte m ≡ v.byte m
