-- Each turn adds a word's count to the rank at the word. Assumes nothing.
use Prim.Native.Nat.{◌*◌}
use native.Mathlib.Omega.{arith}
use Rattle.bitvector.proofs.RankLaws.{rank-zero, rank-word, rank-le}
use Rattle.bitvector.proofs.bitmap.count.Goals as goal

pub loop-w-init : goal.loop-w-init
loop-w-init c = omega (arith, rank-zero c.args.s.now)

pub overflow_add-sum : goal.overflow_add-sum
overflow_add-sum c = omega (arith, rank-le c.args.s.now (c.loop-w.w-index * 64))

pub loop-w-preserved : goal.loop-w-preserved
loop-w-preserved c = omega (arith, rank-word c.args.s.now c.loop-w.w-index (c.type_inv.s c.loop-w.w-index).fits)
