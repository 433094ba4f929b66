-- The first i suffixes bear their flags. Assumes nothing.
use Rattle.std.proofs.Common.{◌∙◌, arith}
use Rattle.set_ops.proofs.TakeLooks.{byte-one, flag-start, flag-next}
use Rattle.set_ops.proofs.take.in_vector_each.Goals as goal

pub loop-i-init : goal.loop-i-init
loop-i-init c = flag-start _ _ _

pub bounds-flags-i : goal.bounds-flags-i
bounds-flags-i c = omega (arith, c.loop-i-test.true, c.loop-i.invariant.long, c.requires)

pub loop-i-preserved : goal.loop-i-preserved
loop-i-preserved c = flag-next _ _ _ _ _ c.requires c.loop-i.invariant c.loop-i-test.true c.contains.result c.contains.ensures c.from.result (c.from.ensures ∙ byte-one c.contains.result)

pub shape_of-flags : goal.shape_of-flags
shape_of-flags c = c.loop-i.invariant.long

pub returns : goal.returns
returns c =
    record {
      each =
          λ i h. c.loop-i.invariant.says i (omega (arith, h, c.loop-i-test.false));
    }
