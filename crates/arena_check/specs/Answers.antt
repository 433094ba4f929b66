-- What the answer of the check says. Assumes nothing.
use Rattle.std.specs.Prelude.{ℕ, ◌≡◌, List, Option, Some, None}
use Rattle.arena.specs.Arena.{Arena, nodes_in}
use Rattle.arena_check.specs.Checks.{roots_in, last_bits}
use Rattle.arena_check.specs.declared.Sound.{Sound}

-- it is no arena; or it is one, with so many roots and so many bits at the last level
abbrev pub CheckedAs : ℕ → ℕ → ℕ → List ℕ → Option Sound → Type 0
CheckedAs slots b used l None = Arena slots b used l → ⊥
CheckedAs slots b used l (Some s) = Arena slots b used l × (s.roots ≡ roots_in (nodes_in slots l) slots) × (s.last ≡ last_bits (nodes_in slots l) b slots)
