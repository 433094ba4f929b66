-- Each word is made for itself; the answer is the bit before. Assumes nothing.
use mathlib.Core.Path.{◌≡◌}
use native.Mathlib.Omega.{arith}
use lib.ListN.{length}
use Rattle.bitvector.proofs.Four.{made-four}
use borrow.Author.Rules.{rules}
use Rattle.bitvector.proofs.tiny.TinyBitvector.remove.Goals as goal

pub returns : goal.returns
returns c =
    let ws = c.args.self.w in
    let len : length ws ≡ 4 = search rules in
    let made = made-four ws _ _ _ _ c.args.x 0 len (omega arith) c.without_in-a.ensures c.without_in-b.ensures c.without_in-c.ensures c.without_in-d.ensures in
    (made, c.contains-present.ensures)
