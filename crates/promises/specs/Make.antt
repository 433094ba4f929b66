-- The promise of make. Assumes nothing.
use Rattle.std.specs.Prelude.{◌≡◌, not, List, ◌++◌, ℕ, ltb, length, drop}
use Rattle.region.specs.Ranges.{good_numbers}
use Rattle.region.specs.Geometry.{total}
use Rattle.region.specs.Fresh.{fresh}
use Rattle.promises.specs.Refusals.{Refusal, Told, when, tell, unless_refused}

-- the refusals of make that apply to these numbers and this slice
abbrev pub make_refusals : ℕ → ℕ → ℕ → ℕ → List ℕ → List Refusal
make_refusals P S C N region =
    -- a number outside its range
    when (not (good_numbers P S C N)) 2 0
    -- slice shorter than the total
    ++ when (ltb (length region) (total P C N)) 3 0

-- make a region: what it tells, and the lent words afterwards
pub record MakePromise (P S C N : ℕ) (region : List ℕ) (told : Told (Unit {0})) (region' : List ℕ) : Type 0 where
  pub tells : told ≡ tell (make_refusals P S C N region) tt
  -- the fresh image up to the total; the words past it stay
  pub leaves : region' ≡ unless_refused (make_refusals P S C N region) (fresh P S C N ++ drop (total P C N) region) region
