-- The promise of the walk from a place, and of a walker that hands out words singly. Assumes nothing.
use Rattle.std.specs.Prelude.{◌≡◌, Bool, not, List, [], ◌++◌, ℕ, zero, suc, ◌+◌, ltb, length, take, drop}
use Rattle.model.specs.Reading.{Reading, walk, count}
use Rattle.region.specs.Read.{reading}
use Rattle.region.specs.WellFormed.{WellFormed}
use Rattle.promises.specs.Refusals.{Refusal, Told, when, tell, unless_refused, holds}

-- the next words of a walk from place k, as far as n places reach
abbrev pub walk_from : Reading → ℕ → ℕ → List ℕ
walk_from r k n = take n (drop k (walk r))

-- the region is not well formed, or the walk start is above the member count
abbrev pub walk_refusals : Bool → Reading → ℕ → List Refusal
walk_refusals sound r start = when (not sound) 1 0 ++ when (ltb (count r) start) 8 0

-- the output with some words written at its front, and the rest left
abbrev pub written_over : List ℕ → List ℕ → List ℕ
written_over words output = words ++ drop (length words) output

-- a walk writes the next words as far as the output reaches, returns how many, and leaves the rest
pub record WalkPromise (region : List ℕ) (start : ℕ) (output : List ℕ) (told : Told ℕ) (output' : List ℕ) : Type 0 where
  pub sound : Dec (WellFormed region)
  pub tells : told ≡ tell (walk_refusals (holds sound) (reading region) start) (length (walk_from (reading region) start (length output)))
  pub leaves : output' ≡ unless_refused (walk_refusals (holds sound) (reading region) start) (written_over (walk_from (reading region) start (length output)) output) output

-- a walker is set on a region at a start: the place where it stands, or the refusals of a walk
pub record OpenPromise (region : List ℕ) (start : ℕ) (told : Told ℕ) : Type 0 where
  pub sound : Dec (WellFormed region)
  pub tells : told ≡ tell (walk_refusals (holds sound) (reading region) start) start

-- one step of a walker that was set on a region and stands at a place of its reading r: the word there, if there is one, and the next place
pub record StepPromise (r : Reading) (place : ℕ) (words : List ℕ) (place' : ℕ) : Type 0 where
  pub hands_out : words ≡ walk_from r place 1
  pub moves : place' ≡ place + length words

-- n steps of a walker, one after the other: the place it starts at, the words that it hands out, the place it comes to
pub data Steps (r : Reading) : ℕ → ℕ → List ℕ → ℕ → Type 0 where
  none : (place : ℕ) → Steps r zero place [] place
  next : {n place place' end : ℕ} {ws later : List ℕ} → StepPromise r place ws place' → Steps r n place' later end → Steps r (suc n) place (ws ++ later) end
