-- The first entry of a slot is one of its strip. Assumes nothing.
use Rattle.std.proofs.Common.{arith}
use Rattle.set_ops.proofs.pour.touched.Goals as goal

pub entry-requires : goal.entry-requires
entry-requires c =
    record {
      ready = c.requires.ready;
      c_bound = c.requires.c_bound;
      i_lt_strip_words = omega arith;
    }
