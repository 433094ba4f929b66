-- A slot is one of the set's where its number is below C. Assumes nothing.
use Rattle.std.proofs.Common.{arith}
use Rattle.set_ops.proofs.pour.touched_in.Goals as goal

pub touched-requires : goal.touched-requires
touched-requires c =
    record {
      ready = c.requires.ready;
      c_bound = omega (arith, c.c.ensures, c.if-r-c.true);
    }
