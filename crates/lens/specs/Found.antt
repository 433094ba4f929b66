-- Where a prefix's container stands in a region, and that words have none. No promise cites this. Assumes nothing.
use Rattle.std.specs.Prelude.{◌≡◌, ℕ, ◌%◌, ◌^◌, ◌<◌, List, slice_index, Option, Some, None}
use Rattle.model.specs.Words.{prefix_of}
use Rattle.region.specs.Areas.{numbers}
use Rattle.region.specs.Seen.{seen}
use Rattle.region.specs.WellFormed.{rank_of}

-- prefix p is set, and c is the slot at its rank; or p is clear
abbrev pub FoundAs : List ℕ → ℕ → Option ℕ → Type 0
FoundAs l p (Some c) = ((seen (numbers l) l).bit p ≡ 1) × (c ≡ (seen (numbers l) l).slot (rank_of (numbers l) (seen (numbers l) l) p))
FoundAs l p None = (seen (numbers l) l).bit p ≡ 0

-- a look that met p's container found it; one that did not says nothing
abbrev pub MetAs : List ℕ → ℕ → Option ℕ → Type 0
MetAs l p (Some c) = FoundAs l p (Some c)
MetAs l p None = Unit {0}

-- none of the first k words has its prefix set; the prefix is taken modulo 2^P, so that any number may stand for a word
abbrev pub NoneSet : List ℕ → List ℕ → ℕ → Type 0
NoneSet l words k = (i : ℕ) → i < k → (seen (numbers l) l).bit (prefix_of (numbers l).S (slice_index words i) % 2 ^ (numbers l).P) ≡ 0
