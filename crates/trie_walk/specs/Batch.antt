-- Nodes of one level on the way down tries, each behind its leading bytes. Assumes nothing.
use Rattle.std.specs.Prelude.{ℕ, suc, ◌+◌, ◌-◌, ◌*◌, ◌^◌, ◌<◌, ◌≤◌, ◌≡◌, List, length, get_or}
use Rattle.lists.specs.Lists.{each}
use Rattle.region.specs.Nodes.{Nodes}
use Rattle.region.specs.Tries.{listed}
use Rattle.arena.specs.Arena.{Tries, nodes_in}

-- node n of tries of b levels has d levels left, its own with them
pub record Left (v : Nodes) (N b d n : ℕ) : Type 0 where
  pub in-range : n < N
  pub level : v.level1 n + d ≡ suc b

-- the first count nodes of tries of b levels, at most five, have d levels left, and their leading bytes are as many as the levels above
pub record Row (N b d count : ℕ) (nodes leads l : List ℕ) : Type 0 where
  pub few : b ≤ 5
  pub tries : Tries N b l
  pub some : 1 ≤ d
  pub short : d ≤ b
  pub node : (i : ℕ) → i < count → Left (nodes_in N l) N b d (get_or nodes i 0)
  pub lead : (i : ℕ) → i < count → get_or leads i 0 < 2 ^ (8 * (5 - d))

-- and the same for some number of levels
pub record Batch (N d count : ℕ) (nodes leads l : List ℕ) : Type 0 where
  pub levels : ℕ
  pub row : Row N levels d count nodes leads l

-- the suffixes below the first count nodes
abbrev pub all_listed : Nodes → ℕ → List ℕ → List ℕ → ℕ → List ℕ
all_listed v d nodes leads count = each (λ i. listed v d (get_or nodes i 0) (get_or leads i 0)) count

-- four words stand at place i of the maps, and the places before keep theirs
pub record Copied (word : ℕ → ℕ) (i : ℕ) (maps after : List ℕ) : Type 0 where
  pub long : length after ≡ length maps
  pub here : (j : ℕ) → j < 4 → get_or after (4 * i + j) 0 ≡ word j
  pub before : (e : ℕ) → e < 4 * i → get_or after e 0 ≡ get_or maps e 0
