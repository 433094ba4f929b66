-- The suffixes before place i are taken over, and the slot is the prefix's still. Assumes nothing.
use Rattle.set_ops.proofs.TakeRest.{Resting}
use Rattle.set_ops.proofs.take.put_singly.Given as goal

abbrev pub invariant-loop-s : goal.invariant-loop-s
invariant-loop-s l = Resting l.c l.suffixes l.initial.dest l.dest l.s-index
