-- Each turn counts one slot more; a kind past 2 ends it. Assumes nothing.
use Rattle.std.proofs.Common.{◌∙◌, arith}
use Rattle.inspect_slots.proofs.Placing.{used_start, used-next, one-if-used}
use Rattle.inspect_slots.proofs.ranks.in_use.Goals as goal

pub loop-c-init : goal.loop-c-init
loop-c-init c = used_start _

pub loop-c-preserved : goal.loop-c-preserved
loop-c-preserved c = used-next c.args.records.now c.loop-c.invariant _ (omega arith) (c.from-n.ensures ∙ one-if-used _)
