-- A length and the member count are stored, wherever a region stands between two stores. Assumes nothing.
use Prim.Native.Nat.{ℕ, ◌+◌, ◌*◌}
use mathlib.Core.List.{List}
use native.Mathlib.Omega.{arith}
use lib.ListN.{set, get_or}
use Rattle.region.specs.Geometry.{record_words}
use Rattle.lens.proofs.Holding.{header_is, hold-records, hold-count}
use Rattle.wordset_vector.specs.Settled.{Settled}

pub settling : (l : List ℕ) (c n m : ℕ) → Settled c n m l (set (set l (get_or l 11 0 + (record_words * c + 2)) n) 7 m)
settling l c n m = record { holds = λ g x l₀ y h. hold-count (hold-records y (get_or l 11 0) (record_words * c + 2) n (header_is y).records (omega arith)) m }
