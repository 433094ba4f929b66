-- A byte is below 256, and four words have 256 bits. Assumes nothing.
use mathlib.Core.Path.{◌≡◌}
use native.Mathlib.Omega.{arith}
use lib.ListN.{length}
use borrow.Author.Rules.{rules}
use Rattle.bitvector.proofs.tiny.TinyBitvector.contains.Goals as goal

pub test-requires : goal.test-requires
test-requires c =
    let len : length c.args.self.w ≡ 4 = search rules in
    omega arith
