-- No entry before i stands among those before it. Assumes nothing.
use Rattle.std.proofs.Common.{◌≡◌, ℕ, ◌<◌, false, get_or, take}
use Rattle.lists.specs.Lists.{mem}
use Rattle.strip.proofs.differ.distinct_searched.Given as goal

abbrev pub invariant-loop-i : goal.invariant-loop-i
invariant-loop-i l = (k : ℕ) → k < l.i → mem (get_or l.entries k 0) (take k l.entries) ≡ false
