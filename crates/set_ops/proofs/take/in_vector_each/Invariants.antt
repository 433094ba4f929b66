-- The first i suffixes bear their flags. Assumes nothing.
use Rattle.set_ops.proofs.TakeLooks.{Flagged}
use Rattle.set_ops.proofs.take.in_vector_each.Given as goal

abbrev pub invariant-loop-i : goal.invariant-loop-i
invariant-loop-i l = Flagged l.entries l.suffixes l.initial.flags l.flags l.i
