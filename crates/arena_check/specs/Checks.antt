-- What the test of an arena asks of each node, and what it counts. Of these the promise cites the two counts that the answer holds; proofs/Both says that the rest together are the arena's own conditions. Assumes nothing.
use Rattle.std.specs.Prelude.{ℕ, suc, ◌-◌, ◌≤◌, ◌<◌, min, ◌≡◌, ◌≢◌, Bool, cond, ◌&&◌, eqb, leb, ltb}
use Rattle.lists.specs.Lists.{one}
use Rattle.lists.specs.Sums.{sum}
use Rattle.region.specs.Nodes.{Nodes}
use Rattle.region.specs.WellFormed.{NonEmpty, StackedNode}
use Rattle.region.specs.Linked.{Above}

-- below a root, the back link of node n is to one of N nodes and to a byte
abbrev pub BackInRange : ℕ → Nodes → ℕ → Type 0
BackInRange N v n = 2 ≤ v.level1 n → (v.parent n < N) × (v.byte n < 256)

-- what node n keeps by its own words: free, it stands in the stack; in use, its map is not empty; below a root, its back link is in range
pub record OwnOk (N b free : ℕ) (spare : ℕ → ℕ) (v : Nodes) (n : ℕ) : Type 0 where
  pub level : v.level1 n ≤ b
  pub stacked : v.level1 n ≡ 0 → StackedNode free spare v n
  pub non-empty : v.level1 n ≢ 0 → NonEmpty v n
  pub back : BackInRange N v n

-- and what hangs on its parent: below a root, that names it
abbrev pub Hangs : ℕ → Nodes → ℕ → Type 0
Hangs N v n = (l : ℕ) → v.level1 n ≡ suc (suc l) → Above v N l n

-- 1 for a node below a root, else 0
abbrev pub below_root : Nodes → ℕ → ℕ
below_root v n = min 1 (v.level1 n - 1)

-- whether node n is in use above the last of b levels
abbrev pub inner : Nodes → ℕ → ℕ → Bool
inner v b n = leb 1 (v.level1 n) && ltb (v.level1 n) b

-- how many bits the map of node n has
abbrev pub set_bits : Nodes → ℕ → ℕ
set_bits v n = sum (v.bit n) 256

-- how many of them want a child
abbrev pub branches : Nodes → ℕ → ℕ → ℕ
branches v b n = cond (inner v b n) (set_bits v n) 0

-- how many of the first k nodes are roots
abbrev pub roots_in : Nodes → ℕ → ℕ
roots_in v k = sum (λ n. one (eqb (v.level1 n) 1)) k

-- how many bits the maps of the first k nodes have at the last of b levels
abbrev pub last_bits : Nodes → ℕ → ℕ → ℕ
last_bits v b k = sum (λ n. cond (eqb (v.level1 n) b) (set_bits v n) 0) k

-- the first k nodes keep what they must by their own words, and are counted: roots, bits that want a child, bits at the last level
pub record Tallied (N b free : ℕ) (spare : ℕ → ℕ) (v : Nodes) (k roots bits last : ℕ) : Type 0 where
  pub own : (n : ℕ) → n < k → OwnOk N b free spare v n
  pub roots-is : roots ≡ roots_in v k
  pub bits_is : bits ≡ sum (branches v b) k
  pub last-is : last ≡ last_bits v b k
