-- Each turn passes one slot more; as many free slots as places leave no place over. Assumes nothing.
use Rattle.std.proofs.Common.{◌∙◌, arith}
use Rattle.inspect_slots.proofs.Stacking.{free-start, free-next, free-end, one-if-free}
use Rattle.inspect_slots.proofs.stack.stack_ok.Goals as goal

pub loop-c-init : goal.loop-c-init
loop-c-init c = free-start _ _

pub loop-c-preserved : goal.loop-c-preserved
loop-c-preserved c = free-next _ _ c.loop-c.invariant _ (c.stacked.ensures.yes c.if-not-stacked.false) (c.from-n.ensures ∙ one-if-free _)

pub returns : goal.returns
returns c =
    record {
      yes = (free-end _ _ c.loop-c.invariant (omega arith)).0;
      no = (free-end _ _ c.loop-c.invariant (omega arith)).1;
    }
