-- What storing a record's kind, length and link, the nodes in use and the member count leaves of a region between two stores. No promise cites this. Assumes nothing.
use Rattle.std.specs.Prelude.{ℕ, ◌+◌, ◌*◌, ◌<◌, List, set}
use Rattle.region.specs.Geometry.{record_words}
use Rattle.region.specs.Areas.{Numbers}
use Rattle.lens.specs.Parts.{Parts, with_records}
use Rattle.lens.specs.Holding.{Holding}
use Rattle.steps.specs.Steps.{counted}

-- the records with another one of slot c, its prefix kept
abbrev pub recorded : ℕ → ℕ → ℕ → ℕ → List ℕ → List ℕ
recorded c kind n link rs = set (set (set rs (record_words * c) kind) (record_words * c + 2) n) (record_words * c + 3) link

-- l became m: slot c has the kind, the length n and the link, and the header used nodes in use and count members
pub record Settled (c kind n link used count : ℕ) (l m : List ℕ) : Type 0 where
  pub holds : (g : Numbers) (x : Parts) (l₀ : List ℕ) → Holding g x l₀ l → c < g.C → Holding (counted g g.k used count) (with_records (recorded c kind n link x.records) x) l₀ m
