-- What each write makes of a region, as what it makes of its areas. No promise cites this. Assumes nothing.
use Rattle.std.specs.Prelude.{ℕ, ◌+◌, ◌*◌, List, set}
use Rattle.region.specs.Geometry.{record_words, strip_words}
use Rattle.region.specs.Areas.{numbers, bitmap, ranks}
use Rattle.bitvector.specs.Maps.{Made}
use Rattle.lens.specs.Parts.{Parts, parts_of, with_bitmap, with_ranks, with_stack, with_records, with_entries}
use Rattle.lens.specs.Holding.{Holding}
use Rattle.steps.specs.Steps.{counted}

-- l became m: of its areas x the areas f x
abbrev pub Became : (Parts → Parts) → List ℕ → List ℕ → Type 0
Became f l m = Holding (numbers l) (f (parts_of (numbers l) l)) l m

-- l became m: with other counts
abbrev pub Recounted : ℕ → ℕ → List ℕ → List ℕ → Type 0
Recounted k count l m = Holding (counted (numbers l) k (numbers l).used count) (parts_of (numbers l) l) l m

-- slot c is a vector with the prefix p and the one suffix s
abbrev pub filled : ℕ → ℕ → ℕ → Parts → Parts
filled c p s x =
    with_entries (set x.entries (strip_words * c) s)
    (with_records (set (set (set x.records (record_words * c) 1) (record_words * c + 1) p) (record_words * c + 2) 1) x)

-- slot c is free and linked to place i of the stack, where it stands
abbrev pub released : ℕ → ℕ → Parts → Parts
released c i x =
    with_stack (set x.stack i c)
    (with_records (set (set x.records (record_words * c) 0) (record_words * c + 3) i) x)

-- l became m: bit p of the bitmap is made b
pub record BitMade (p b : ℕ) (l m : List ℕ) : Type 0 where
  pub held : Became (with_bitmap (bitmap (numbers l) m)) l m
  pub made : Made (bitmap (numbers l) l) p b (bitmap (numbers l) m)

-- l became m: the rank table is changed, by R
pub record RanksBy (R : List ℕ → List ℕ → Type 0) (l m : List ℕ) : Type 0 where
  pub held : Became (with_ranks (ranks (numbers l) m)) l m
  pub by : R (ranks (numbers l) l) (ranks (numbers l) m)
