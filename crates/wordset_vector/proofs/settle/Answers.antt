-- Two stores, each into the area that the header's words name. Assumes nothing.
use Prim.Native.Nat.{◌+◌, ◌*◌}
use native.Mathlib.Omega.{arith}
use lib.ListN.{get_or, length-set}
use Rattle.wordset_vector.proofs.Settling.{settling}
use Rattle.wordset_vector.proofs.settle.Goals as goal

pub bounds-region-7 : goal.bounds-region-7
bounds-region-7 c = omega (arith, c.requires.ready.has-header, length-set c.args.region.now (get_or c.args.region.now 11 0 + (4 * c.args.c + 2)) c.args.len)

pub returns : goal.returns
returns c = settling c.args.region.now c.args.c c.args.len c.args.count
