-- Of the first i suffixes, those that qualify are written. Assumes nothing.
use Rattle.set_ops.proofs.TakeLooks.{picks, Keeping}
use Rattle.set_ops.proofs.take.keep_block.Given as goal

abbrev pub invariant-loop-i : goal.invariant-loop-i
invariant-loop-i l = Keeping (picks l.other l.d l.shared l.own) l.block l.initial.kept l.kept l.n l.i
