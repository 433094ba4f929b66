-- What a call may go on with after its checks. Assumes nothing.
use Rattle.std.specs.Prelude.{◌≡◌, ℕ, ◌+◌, ◌*◌, ◌^◌, ◌<◌, ◌≤◌, List, length, slice_index}
use Rattle.lists.specs.Lists.{Distinct}
use Rattle.arena.specs.declared.Shape.{Shape}
use Rattle.region.specs.Geometry.{node_words}

-- the words are as many as an arena of N nodes has, and its tries have one to five levels
pub record Measured (N b : ℕ) (l : List ℕ) : Type 0 where
  pub long : length l ≡ N + node_words * N
  pub some : 1 ≤ b
  pub few : b ≤ 5

-- the shape is of N slots and b levels
abbrev pub Shaped : ℕ → ℕ → Shape → Type 0
Shaped N b s = (s.slots ≡ N) × (s.b ≡ b)

-- every suffix has at most b bytes
abbrev pub Narrow : ℕ → List ℕ → Type 0
Narrow b ss = (i : ℕ) → i < length ss → slice_index ss i < 2 ^ (8 * b)

-- a trie can be made of the strip
pub record Plantable (b : ℕ) (ss : List ℕ) : Type 0 where
  pub some : 1 ≤ length ss
  pub few : length ss ≤ 1025
  pub narrow : Narrow b ss
  pub distinct : Distinct ss
