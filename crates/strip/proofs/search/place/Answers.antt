-- `at` is the first place of s from i on, or the length. Assumes nothing.
use Rattle.std.proofs.Common.{arith}
use Rattle.strip.proofs.FindLaws.{first, missing}
use Rattle.strip.proofs.search.place.Goals as goal

pub returns-then-at-block : goal.returns-then-at-block
returns-then-at-block c =
    let inv = c.loop-i.invariant in
    first c.args.block.now c.args.s c.loop-i.at c.if-at-block.true (inv.2 c.if-at-block.true) (λ k l. inv.3 k (omega arith) l)

pub returns-else-at-block : goal.returns-else-at-block
returns-else-at-block c = missing c.args.block.now c.args.s (λ k l. c.loop-i.invariant.3 k (omega arith) (omega arith))
