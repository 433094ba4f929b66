-- The entries before j have their marks, and none of them stands among those before it. Assumes nothing.
use Rattle.std.proofs.Common.{◌≡◌, ℕ, ◌<◌, true, false, length, get_or, take}
use Rattle.lists.specs.Lists.{mem}
use Rattle.strip.specs.Marks.{marked}
use Rattle.strip.proofs.differ.distinct_marked.Given as goal

abbrev pub invariant-loop-j : goal.invariant-loop-j
invariant-loop-j l = record { long : length l.marks ≡ 16384; marks : (k : ℕ) → k < l.j → marked l.marks (get_or l.entries k 0) ≡ true; fresh : (k : ℕ) → k < l.j → mem (get_or l.entries k 0) (take k l.entries) ≡ false }
