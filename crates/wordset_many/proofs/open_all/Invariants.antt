-- Opening many: the loop keeps `Written`, and the rank table and the counts close it. Assumes nothing.
use lib.ListN.{length}
use Rattle.wordset_many.proofs.Filling.{Written}
use Rattle.wordset_many.proofs.open_all.Given as goal

abbrev pub invariant-loop-i : goal.invariant-loop-i
invariant-loop-i l = Written l.initial.region l.words (length l.words) l.i l.region
