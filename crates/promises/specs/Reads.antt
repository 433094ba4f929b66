-- What an entry leaves in a region that it changed, and when two regions read alike. Assumes nothing.
use Rattle.std.specs.Prelude.{◌≡◌, List, ℕ, take, drop}
use Rattle.model.specs.Reading.{Reading}
use Rattle.region.specs.Geometry.{header_words, total}
use Rattle.region.specs.Read.{reading}
use Rattle.region.specs.WellFormed.{WellFormed}

-- the words past the total of a region that reads as r
abbrev pub past : Reading → List ℕ → List ℕ
past r l = drop (total r.P r.C r.N) l

-- the region became region', which is well formed and reads as r; the words past the total stay
pub record ReadsAs (region : List ℕ) (r : Reading) (region' : List ℕ) : Type 0 where
  pub well-formed : WellFormed region'
  pub reads : reading region' ≡ r
  pub past-stays : past r region' ≡ past r region

-- two regions read alike: the same sixteen header words, members, stored order, container slots and free stack, and the same words past the total
pub record ReadAlike (l m : List ℕ) : Type 0 where
  pub header : take header_words l ≡ take header_words m
  pub reads : reading l ≡ reading m
  pub past_same : past (reading l) l ≡ past (reading l) m
