-- What was found so far is whether s stands before the index. Assumes nothing.
use Rattle.std.proofs.Common.{◌≡◌, take}
use Rattle.lists.specs.Lists.{mem}
use Rattle.strip.proofs.search.in_block.Given as goal

abbrev pub invariant-loop-entry : goal.invariant-loop-entry
invariant-loop-entry l = l.hit ≡ mem l.s (take l.entry-index l.block)
