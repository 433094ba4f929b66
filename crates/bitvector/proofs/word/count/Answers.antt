-- A word of 64 bits has at most 64 set. Assumes nothing.
use native.Mathlib.Omega.{arith}
use mathlib.Core.Path.{refl}
use lib.Count.{ones-le}
use Rattle.bitvector.proofs.word.count.Goals as goal

pub overflow_cast-result : goal.overflow_cast-result
overflow_cast-result c = omega (arith, ones-le 64 c.args.w c.ranges.w.fits)

pub returns : goal.returns
returns c =
    record {
      is = refl;
      few = ones-le 64 c.args.w c.ranges.w.fits;
    }
