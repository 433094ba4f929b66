-- A block that is 0 but for one word: a stack's place, a free record and a free node are each one. Assumes nothing.
use Rattle.std.specs.Prelude.{List, ℕ, set}
use Rattle.region.specs.Fresh.{zeros}

-- w words, with v at word `at`
abbrev pub marked : ℕ → ℕ → ℕ → List ℕ
marked w at v = set (zeros w) at v
