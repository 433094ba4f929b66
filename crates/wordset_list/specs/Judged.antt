-- What a search for an entry that fails a test answers. Assumes nothing.
use Rattle.std.specs.Prelude.{◌≡◌, ℕ, ◌<◌, Bool, Option, Some, None, List, length}
use Rattle.lists.specs.Lists.{first_bad}

-- the place of the first entry that fails a test, if one does
abbrev pub FirstBad : (ℕ → Bool) → List ℕ → Option ℕ → Type 0
FirstBad t xs (Some k) = (k ≡ first_bad t xs) × (k < length xs)
FirstBad t xs None = length xs ≡ first_bad t xs
