-- What opening containers for many words makes of a reading: one after the other, each with the next free slot. No promise cites this. Assumes nothing.
use Rattle.std.specs.Prelude.{ℕ, zero, suc, ◌<◌, ◌≡◌, ◌≢◌, Bool, true, false, List, [], ◌∷◌, get_or}
use Rattle.model.specs.Words.{prefix_of, suffix_of}
use Rattle.model.specs.Reading.{Reading}
use Rattle.model.specs.Change.{placed, top, rest, with}
use Rattle.region.specs.Read.{reading}
use Rattle.promises.specs.Reads.{ReadsAs}
use Rattle.wordset_many.specs.Line.{prefix_at}

-- a container for the word w, whose prefix has none
abbrev pub opened : ℕ → Reading → Reading
opened w R = with R (placed (prefix_of R.S w) (top R.free) (suffix_of R.S w ∷ []) R.containers) (rest R.free)

-- containers for the first n words
abbrev pub opened_all : List ℕ → ℕ → Reading → Reading
opened_all words zero R = R
opened_all words (suc i) R = opened (get_or words i 0) (opened_all words i R)

-- done: a container for each of the first n words, whose prefixes all differ; not done: nothing is changed
abbrev pub OpenedAs : List ℕ → ℕ → List ℕ → Bool → List ℕ → Type 0
OpenedAs words n l true l' = ReadsAs l (opened_all words n (reading l)) l' × ((i j : ℕ) → i < j → j < n → prefix_at l words i ≢ prefix_at l words j)
OpenedAs words n l false l' = l' ≡ l
