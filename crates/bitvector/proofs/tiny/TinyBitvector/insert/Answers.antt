-- Each word is made for itself; the answer is the bit before. Assumes nothing.
use mathlib.Core.Path.{◌≡◌, ap, ◌∙◌}
use mathlib.Core.Bool.{not}
use native.Mathlib.Omega.{arith}
use lib.ListN.{length}
use Rattle.region.specs.Bits.{bit}
use Rattle.bitvector.proofs.WordLaws.{not-one}
use Rattle.bitvector.proofs.RankLaws.{bit-small}
use Rattle.bitvector.proofs.Four.{made-four}
use borrow.Author.Rules.{rules}
use Rattle.bitvector.proofs.tiny.TinyBitvector.insert.Goals as goal

pub returns : goal.returns
returns c =
    let ws = c.args.self.w in
    let len : length ws ≡ 4 = search rules in
    let made = made-four ws _ _ _ _ c.args.x 1 len (omega arith) c.with_in-a.ensures c.with_in-b.ensures c.with_in-c.ensures c.with_in-d.ensures in
    (made, ap not c.contains-absent.ensures ∙ not-one (bit ws c.args.x) (bit-small ws c.args.x))
