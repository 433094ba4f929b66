-- A region between two stores, when it need not be well formed: its numbers, its areas, and that nothing else changed. No promise cites this. Assumes nothing.
use Rattle.std.specs.Prelude.{◌≡◌, ℕ, List, length, drop}
use Rattle.region.specs.Geometry.{total}
use Rattle.region.specs.Areas.{Numbers, numbers}
use Rattle.region.specs.WellFormed.{Ready}
use Rattle.lens.specs.Parts.{Parts, parts_of}

-- l has the numbers g and the areas x, and is as long as l₀ and the same past the total
pub record Holding (g : Numbers) (x : Parts) (l₀ l : List ℕ) : Type 0 where
  pub ready : Ready l
  pub numbers-are : numbers l ≡ g
  pub parts_are : parts_of g l ≡ x
  pub same_length : length l ≡ length l₀
  pub same_rest : drop (total g.P g.C g.N) l ≡ drop (total g.P g.C g.N) l₀
