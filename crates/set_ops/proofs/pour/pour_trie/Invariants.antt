-- The first suffixes are poured, and those that are left are the ones not below `from`. Assumes nothing.
use Rattle.std.proofs.Common.{length}
use Rattle.region.specs.Areas.{numbers}
use Rattle.region.specs.Seen.{seen}
use Rattle.region.specs.Read.{reading, suffixes}
use Rattle.trie_walk.specs.Pour.{not_below}
use Rattle.set_ops.specs.Poured.{wanted}
use Rattle.set_ops.proofs.PourChunks.{Going}
use Rattle.set_ops.proofs.pour.pour_trie.Given as goal

abbrev pub invariant-loop-from : goal.invariant-loop-from
invariant-loop-from l = Going (wanted (reading l.source.other.now) l.source.wanted) (numbers l.source.set.now).S ((seen (numbers l.source.set.now) l.source.set.now).prefix l.c) (suffixes (numbers l.source.set.now) (seen (numbers l.source.set.now) l.source.set.now) l.c) l.initial.dest l.dest l.chunk l.from

abbrev pub decreases-loop-from : goal.decreases-loop-from
decreases-loop-from l = length (not_below l.from (suffixes (numbers l.source.set.now) (seen (numbers l.source.set.now) l.source.set.now) l.c))
