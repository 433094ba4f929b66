-- How far a suffix's leading bytes lead. Assumes nothing.
use Rattle.std.specs.Prelude.{ℕ, ◌<◌, ◌≡◌}
use Rattle.region.specs.Nodes.{Nodes}
use Rattle.region.specs.Tries.{byte_of, follow, Path}

-- the first j of the b bytes of s lead from the root to n, and the bits on the way are set
pub record Walked (v : Nodes) (root s b n j : ℕ) : Type 0 where
  pub small : j < b
  pub at : n ≡ follow v root (byte_of b s) j
  pub path : Path v root (byte_of b s) j
