-- What storing a length and the member count leaves of a region between two stores. No promise cites this. Assumes nothing.
use Rattle.std.specs.Prelude.{ℕ, ◌+◌, ◌*◌, ◌<◌, List, set}
use Rattle.region.specs.Geometry.{record_words}
use Rattle.region.specs.Areas.{Numbers}
use Rattle.lens.specs.Parts.{Parts, with_records}
use Rattle.lens.specs.Holding.{Holding}
use Rattle.steps.specs.Steps.{counted}

-- l became m: slot c has the length n, and the header count members
pub record Settled (c n count : ℕ) (l m : List ℕ) : Type 0 where
  pub holds : (g : Numbers) (x : Parts) (l₀ : List ℕ) → Holding g x l₀ l → c < g.C → Holding (counted g g.k g.used count) (with_records (set x.records (record_words * c + 2) n) x) l₀ m
