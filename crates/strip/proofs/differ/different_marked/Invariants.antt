-- The entries before i have their marks, and n of them are different. Assumes nothing.
use Rattle.std.proofs.Common.{◌≡◌, ℕ, ◌<◌, ◌≤◌, true, length, get_or, take}
use Rattle.lists.specs.Lists.{different}
use Rattle.strip.specs.Marks.{marked}
use Rattle.strip.proofs.differ.different_marked.Given as goal

abbrev pub invariant-loop-i : goal.invariant-loop-i
invariant-loop-i l = record { long : length l.marks ≡ 16384; hints : length l.hints ≡ 1024; marks : (k : ℕ) → k < l.i → marked l.marks (get_or l.entries k 0) ≡ true; count : l.n ≡ different (take l.i l.entries); few : l.n ≤ l.i }
