-- The check tells whether the region is well formed, the header how many members it has. Assumes nothing.
use native.Mathlib.Omega.{arith}
use Rattle.wordset_walk.proofs.Telling.{checked-good, open-too-far, open-gave}
use Rattle.wordset_walk.proofs.walker.open.Goals as goal

pub returns-then-start-count : goal.returns-then-start-count
returns-then-start-count c = open-too-far c.args.region.now c.args.start (checked-good c.args.region.now c.in_ok-check.ensures) (omega (arith, c.if-start-count.true, c.count.ensures))

pub returns : goal.returns
returns c = open-gave c.args.region.now c.args.start (checked-good c.args.region.now c.in_ok-check.ensures) (omega (arith, c.if-start-count.false, c.count.ensures))
