-- A borrow runs up to the lowest set bit and no further. Assumes nothing.
use Prim.Native.Nat.{◌-◌}
use native.Mathlib.Omega.{arith}
use lib.Bits.{and_le_r}
use Rattle.bitvector.proofs.WordLaws.{lowest-here, lowest-other}
use Rattle.bitvector.proofs.word.without_lowest.Goals as goal

pub returns : goal.returns
returns c =
    let w = c.args.w in
    record {
      here = λ k L. lowest-here w k L.is_set L.none;
      other = λ k L. lowest-other w k L.is_set L.none;
      less = omega (arith, and_le_r w (w - 1));
    }
