-- One word is there where the place is below the member count. Assumes nothing.
use native.Mathlib.Omega.{arith}
use Rattle.wordset_walk.proofs.Singles.{one-or-none}
use Rattle.wordset_walk.proofs.walker.after.Goals as goal

pub returns-then-place-count : goal.returns-then-place-count
returns-then-place-count c = omega (arith, c.count.ensures, one-or-none c.args.region.now c.args.place c.requires)

pub returns : goal.returns
returns c = omega (arith, c.count.ensures, one-or-none c.args.region.now c.args.place c.requires)
