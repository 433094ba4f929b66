-- How far a search for a prefix's rank has come. No promise cites this. Assumes nothing.
use Rattle.std.specs.Prelude.{ℕ, ◌≤◌, List}
use Rattle.region.specs.Areas.{numbers}
use Rattle.region.specs.Seen.{seen}
use Rattle.region.specs.WellFormed.{rank_of}

-- p's rank lies from low to high, which are ranks in use or the end of them
pub record Between (l : List ℕ) (p low high : ℕ) : Type 0 where
  pub from : low ≤ rank_of (numbers l) (seen (numbers l) l) p
  pub upto : rank_of (numbers l) (seen (numbers l) l) p ≤ high
  pub in_use : high ≤ (numbers l).k
