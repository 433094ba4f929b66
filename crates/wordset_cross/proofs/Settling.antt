-- A record's kind, length and link, the nodes in use and the member count are stored, wherever a region stands between two stores. Assumes nothing.
use Prim.Native.Nat.{ℕ, ◌+◌, ◌*◌, ◌<◌}
use mathlib.Core.List.{List}
use native.Mathlib.Omega.{arith}
use lib.ListN.{set, get_or}
use Rattle.region.specs.Geometry.{record_words}
use Rattle.region.specs.Areas.{Numbers}
use Rattle.lens.specs.Parts.{Parts, with_records}
use Rattle.lens.specs.Holding.{Holding}
use Rattle.lens.proofs.Holding.{header_is, hold-records, hold-used, hold-count}
use Rattle.wordset_cross.specs.Settled.{recorded, Settled}

-- the three words of the record
abbrev pub stored : (l : List ℕ) (c kind n link : ℕ) → List ℕ
stored l c kind n link = set (set (set l (get_or l 11 0 + record_words * c) kind) (get_or l 11 0 + (record_words * c + 2)) n) (get_or l 11 0 + (record_words * c + 3)) link

record-holds : (l : List ℕ) (c kind n link : ℕ) (g : Numbers) (x : Parts) (l₀ : List ℕ) → Holding g x l₀ l → c < g.C → Holding g (with_records (recorded c kind n link x.records) x) l₀ (stored l c kind n link)
record-holds l c kind n link g x l₀ y h =
    let one = hold-records y (get_or l 11 0) (record_words * c) kind (header_is y).records (omega arith) in
    let two = hold-records one (get_or l 11 0) (record_words * c + 2) n (header_is y).records (omega arith) in
    hold-records two (get_or l 11 0) (record_words * c + 3) link (header_is y).records (omega arith)

pub settling : (l : List ℕ) (c kind n link used m : ℕ) → Settled c kind n link used m l (set (set (stored l c kind n link) 6 used) 7 m)
settling l c kind n link used m = record { holds = λ g x l₀ y h. hold-count (hold-used (record-holds l c kind n link g x l₀ y h) used) m }
