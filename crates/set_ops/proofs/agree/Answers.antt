-- P is compared, then S. Assumes nothing.
use Rattle.set_ops.proofs.Lists.{agree-no, agree-yes}
use Rattle.set_ops.proofs.agree.Goals as goal

pub returns-then-p : goal.returns-then-p
returns-then-p c = agree-no _ _ _ _ _ c.p.ensures c.p-2.ensures c.if-p.true

pub returns : goal.returns
returns c = agree-yes _ _ _ _ _ _ _ _ c.p.ensures c.p-2.ensures c.if-p.false c.s.ensures c.s-2.ensures
