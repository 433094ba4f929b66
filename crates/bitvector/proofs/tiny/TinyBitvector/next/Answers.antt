-- Four words have 256 bits. Assumes nothing.
use mathlib.Core.Path.{◌≡◌}
use native.Mathlib.Omega.{arith}
use lib.ListN.{length}
use borrow.Author.Rules.{rules}
use Rattle.bitvector.proofs.tiny.TinyBitvector.next.Goals as goal

pub next_set-requires : goal.next_set-requires
next_set-requires c =
    let len : length c.args.self.w ≡ 4 = search rules in
    omega arith
