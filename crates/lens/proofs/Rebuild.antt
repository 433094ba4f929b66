-- A region is well formed, and reads as it does, by its areas alone: what is seen of a region is what its areas say. Assumes nothing.
use Rattle.std.proofs.Common.{◌≡◌, ℕ, List, refl}
use Rattle.region.specs.Areas.{numbers}
use Rattle.region.specs.Seen.{seen}
use Rattle.region.specs.Read.{read, reading}
use Rattle.region.specs.WellFormed.{Shape, Ready, WellFormed}
use Rattle.lens.specs.Parts.{parts_of, seen_in}

pub rebuilt : (l : List ℕ) → Ready l → Shape (numbers l) (seen_in (parts_of (numbers l) l)) → WellFormed l
unfolding seen
rebuilt l r s = record { ready = r; shape = s }

pub reading-parts : (l : List ℕ) → reading l ≡ read (numbers l) (seen_in (parts_of (numbers l) l))
unfolding seen reading
reading-parts l = refl
