-- The bytes before j stand, and zeros from j on. Assumes nothing.
use mathlib.Core.Path.{◌≡◌, subst}
use native.Mathlib.Omega.{arith}
use Rattle.sliced_int.proofs.Laws.{byte-lt}
use Rattle.sliced_int.proofs.Filling.{Filled, filled-all}
use Rattle.sliced_int.proofs.SlicedInt.from_int.Goals as goal

pub overflow_cast-bytes : goal.overflow_cast-bytes
overflow_cast-bytes c = omega (arith, byte-lt c.args.b c.args.s c.loop-j.j, c.byte.ensures)

pub returns : goal.returns
returns c =
    let a = c.args in
    let l = c.loop-j in
    let e : l.j ≡ a.b = omega (arith, c.loop-j-test.false, l.auto.j-end) in
    filled-all a.b a.s l.bytes (subst (Filled a.b a.s l.bytes) e l.invariant)
