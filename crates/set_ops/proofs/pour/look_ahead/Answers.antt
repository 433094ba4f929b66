-- Nothing is promised of the hints. Assumes nothing.
use Rattle.std.proofs.Common.{arith}
use Rattle.set_ops.proofs.pour.look_ahead.Goals as goal

pub overflow_add-r : goal.overflow_add-r
overflow_add-r c = omega (arith, c.requires.from_bound, c.loop-i-test.true)
