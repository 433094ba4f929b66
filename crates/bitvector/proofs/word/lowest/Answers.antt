-- Trailing zeros are the place of the lowest set bit. Assumes nothing.
use Prim.Native.Nat.{◌<◌}
use native.Mathlib.Omega.{arith}
use lib.Count.{count_trailing_zeros, trailing_le}
use Rattle.bitvector.proofs.Search.{trailing-bit, trailing_below, trailing_lt}
use Rattle.bitvector.proofs.word.lowest.Goals as goal

pub overflow_cast-result : goal.overflow_cast-result
overflow_cast-result c = omega (arith, trailing_le 64 c.args.w)

pub returns : goal.returns
returns c =
    let w = c.args.w in
    let low : count_trailing_zeros 64 w < 64 = trailing_lt 64 w (omega arith) c.ranges.w.fits in
    record { small = low; is_set = trailing-bit 64 w low; none = trailing_below 64 w }
