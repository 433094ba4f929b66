-- The promise of the region check. Assumes nothing.
use Rattle.std.specs.Prelude.{◌≡◌, not, List, ℕ}
use Rattle.region.specs.WellFormed.{WellFormed}
use Rattle.promises.specs.Refusals.{Told, when, tell, holds}

-- check a region: 1 exactly when it is not well formed
pub record CheckPromise (region : List ℕ) (told : Told (Unit {0})) : Type 0 where
  pub sound : Dec (WellFormed region)
  pub tells : told ≡ tell (when (not (holds sound)) 1 0) tt
