-- The promise of the list entry. Assumes nothing.
use Rattle.std.specs.Prelude.{◌≡◌, ◌≢◌, Bool, not, ◌||◌, List, [], ◌++◌, ℕ, eqb, ltb, length, drop}
use Rattle.model.specs.Words.{is_word}
use Rattle.model.specs.Reading.{Reading}
use Rattle.model.specs.Commands.{known_code, commands, Run, run, place}
use Rattle.region.specs.Ranges.{longest}
use Rattle.region.specs.Read.{reading}
use Rattle.region.specs.WellFormed.{WellFormed}
use Rattle.promises.specs.Refusals.{Refusal, Told, when, failing, tell, holds}
use Rattle.promises.specs.Reads.{ReadsAs}

-- codes and words differ in length, answers shorter, or over 4,096 words
abbrev pub bad_lengths : List ℕ → List ℕ → List ℕ → Bool
bad_lengths codes words answers = not (eqb (length codes) (length words)) || ltb (length answers) (length words) || ltb longest (length words)

-- a word of the set that a region reads as
abbrev pub word_of : Reading → ℕ → Bool
word_of r w = is_word r.P r.S w

-- the refusals that apply to the whole list, judged before anything runs; sound says whether the region is well formed
abbrev pub list_refusals : Bool → Reading → List ℕ → List ℕ → List ℕ → List Refusal
list_refusals sound r codes words answers =
    -- the region is not well formed
    when (not sound) 1 0
    -- the lists do not fit together
    ++ when (bad_lengths codes words answers) 4 0
    -- unknown code
    ++ failing 5 known_code codes
    -- word at or above 2^(P+S)
    ++ failing 6 (word_of r) words

-- what the commands come to
abbrev pub outcome : List ℕ → List ℕ → List ℕ → Run
outcome region codes words = run (commands codes words) (reading region)

-- no room, at the command
abbrev pub no_room : Run → List Refusal
no_room o = when o.stopped 9 (place o)

-- what a list that ran leaves: the region as the run says; the answers given, and the answer bytes past them stay
pub record Ran (region answers : List ℕ) (o : Run) (region' answers' : List ℕ) : Type 0 where
  pub region-reads : ReadsAs region o.reading region'
  pub answers-are : answers' ≡ o.answers ++ drop (length o.answers) answers

-- run a command list: what it tells, and the lent region and answers afterwards
pub record ListPromise (region codes words answers : List ℕ) (told : Told (Unit {0})) (region' answers' : List ℕ) : Type 0 where
  pub sound : Dec (WellFormed region)
  pub tells : told ≡ tell (list_refusals (holds sound) (reading region) codes words answers ++ no_room (outcome region codes words)) tt
  -- every refusal but 9 changes nothing lent
  pub stays : list_refusals (holds sound) (reading region) codes words answers ≢ [] → (region' ≡ region) × (answers' ≡ answers)
  -- with 9, a list keeps the effect and answers of earlier commands, and later answer bytes stay
  pub runs : list_refusals (holds sound) (reading region) codes words answers ≡ [] → Ran region answers (outcome region codes words) region' answers'
