-- The whole words before word i / 64, and that word's bits below bit i % 64. Assumes nothing.
use Prim.Native.Nat.{◌/◌}
use native.Mathlib.Omega.{arith}
use Rattle.bitvector.proofs.RankLaws.{rank-at, rank-front, rank-le}
use Rattle.bitvector.proofs.bitmap.rank.Goals as goal

pub overflow_add-result : goal.overflow_add-result
overflow_add-result c =
    let a = c.args in
    omega (arith, rank-at a.s.now a.i, rank-front a.s.now (a.i / 64) (omega arith), rank-le a.s.now a.i)

pub returns : goal.returns
returns c =
    let a = c.args in
    omega (arith, rank-at a.s.now a.i, rank-front a.s.now (a.i / 64) (omega arith))
