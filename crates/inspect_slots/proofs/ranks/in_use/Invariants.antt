-- Each turn counts one slot more; a kind past 2 ends it. Assumes nothing.
use Rattle.inspect_slots.proofs.Placing.{Used}
use Rattle.inspect_slots.proofs.ranks.in_use.Given as goal

abbrev pub invariant-loop-c : goal.invariant-loop-c
invariant-loop-c l = Used l.records l.c l.n
