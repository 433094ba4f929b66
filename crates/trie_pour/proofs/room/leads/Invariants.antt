-- The first i words are the leading bytes of the first i suffixes, the others as they were. Assumes nothing.
use mathlib.Core.Path.{◌≡◌}
use mathlib.Core.List.{◌++◌, map}
use lib.ListN.{length, take, drop}
use Rattle.trie_pour.proofs.Counting.{head_of}
use Rattle.trie_pour.proofs.room.leads.Given as goal

abbrev pub invariant-loop-i : goal.invariant-loop-i
invariant-loop-i l = (length l.out ≡ length l.initial.out) × (l.out ≡ take l.i (map (head_of l.b l.j) l.strip) ++ drop l.i l.initial.out)
