-- Four stores put the four words before the rest. Assumes nothing.
use mathlib.Core.Path.{◌≡◌}
use native.Mathlib.Omega.{arith}
use lib.ListN.{length, length-set}
use Rattle.bitvector.proofs.Four.{store-four}
use borrow.Author.Rules.{rules}
use Rattle.bitvector.proofs.tiny.TinyBitvector.store.Goals as goal

pub bounds-node-1 : goal.bounds-node-1
bounds-node-1 c = simp length-set (omega arith)

pub bounds-node-2 : goal.bounds-node-2
bounds-node-2 c = simp length-set (omega arith)

pub returns : goal.returns
returns c =
    let len : length c.args.self.w ≡ 4 = search rules in
    store-four c.args.self.w c.args.node.now len c.requires
