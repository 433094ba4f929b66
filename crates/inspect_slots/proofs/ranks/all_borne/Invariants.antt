-- Each turn takes the lowest bit that is left of a word, whose rank is the number of those before it, or goes on to the next word. Assumes nothing.
use Prim.Native.Nat.{◌+◌, ◌-◌}
use lib.ListN.{length}
use Rattle.inspect_slots.proofs.Placing.{Looking}
use Rattle.inspect_slots.proofs.ranks.all_borne.Given as goal

abbrev pub invariant-loop-left : goal.invariant-loop-left
invariant-loop-left l = Looking l.p l.slots l.k l.bitmap l.ranks l.records l.j l.left l.rank

abbrev pub decreases-loop-left : goal.decreases-loop-left
decreases-loop-left l = (length l.bitmap - l.j) + (l.k - l.rank)
