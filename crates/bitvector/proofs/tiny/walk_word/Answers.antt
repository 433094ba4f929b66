-- Each turn writes the lowest bit that is left of the word. Assumes nothing.
use mathlib.Core.Path.{refl, ◌∙◌}
use Prim.Native.Nat.{◌+◌}
use native.Mathlib.Omega.{arith}
use lib.ListN.{length-set}
use Rattle.bitvector.proofs.Walking.{standing-start, standing-few, standing-next, standing-end}
use Rattle.bitvector.proofs.tiny.walk_word.Goals as goal

pub loop-left-init : goal.loop-left-init
loop-left-init c = (refl, standing-start c.args.w c.args.base c.args.at c.args.out.now)

pub overflow_add-out : goal.overflow_add-out
overflow_add-out c = omega (arith, c.lowest.ensures.small)

pub overflow_cast-out : goal.overflow_cast-out
overflow_cast-out c = omega (arith, c.lowest.ensures.small)

pub bounds-out-at : goal.bounds-out-at
bounds-out-at c = omega (arith, standing-few c.loop-left.invariant.1 c.lowest.result c.lowest.ensures)

pub overflow_add-at : goal.overflow_add-at
overflow_add-at c = omega (arith, standing-few c.loop-left.invariant.1 c.lowest.result c.lowest.ensures)

pub loop-left-smaller : goal.loop-left-smaller
loop-left-smaller c = c.without_lowest-left.ensures.less

pub loop-left-preserved : goal.loop-left-preserved
loop-left-preserved c =
    let at = c.loop-left in
    let base = c.args.base in
    let k = c.lowest.result in
    let L = c.lowest.ensures in (
      length-set at.out at.at (base + k) ∙ at.invariant.0,
      standing-next at.invariant.1 k c.without_lowest-left.result L (c.without_lowest-left.ensures.here k L) (c.without_lowest-left.ensures.other k L) (omega (arith, standing-few at.invariant.1 k L)),
    )

pub shape_of-out : goal.shape_of-out
shape_of-out c = c.loop-left.invariant.0

pub returns : goal.returns
returns c =
    let at = c.loop-left in
    record {
      on = standing-end at.invariant.1 c.loop-left-test.false;
      few = omega (arith, at.invariant.1.few, at.invariant.1.small);
    }
