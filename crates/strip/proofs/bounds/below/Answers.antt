-- Below the joined bits is below all. Assumes nothing.
use Rattle.std.proofs.Common.{sym, ◌∙◌, lt-ltb}
use Rattle.strip.proofs.bounds.below.Goals as goal

pub returns-then-joined-bound : goal.returns-then-joined-bound
returns-then-joined-bound c = lt-ltb _ _ c.if-joined-bound.true ∙ sym (c.joined.ensures c.args.bound c.if-joined-bound.true)
