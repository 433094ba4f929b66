-- The promise of "all members". Assumes nothing.
use Rattle.std.specs.Prelude.{◌≡◌, Bool, not, List, ◌++◌, ℕ, ltb, length}
use Rattle.lists.specs.Lists.{all}
use Rattle.model.specs.Reading.{Reading, has}
use Rattle.region.specs.Ranges.{longest}
use Rattle.region.specs.Read.{reading}
use Rattle.region.specs.WellFormed.{WellFormed}
use Rattle.promises.specs.Refusals.{Refusal, Told, when, failing, tell, holds}
use Rattle.promises.specs.List.{word_of}

-- "all members" uses 1, 4 (over 4,096 words only) and 6; sound says whether the region is well formed
abbrev pub all_refusals : Bool → Reading → List ℕ → List Refusal
all_refusals sound r words =
    when (not sound) 1 0
    ++ when (ltb longest (length words)) 4 0
    ++ failing 6 (word_of r) words

-- ask whether all words of a list are members: yes for an empty list
pub record AllPromise (region words : List ℕ) (told : Told Bool) : Type 0 where
  pub sound : Dec (WellFormed region)
  pub tells : told ≡ tell (all_refusals (holds sound) (reading region) words) (all (has (reading region)) words)
