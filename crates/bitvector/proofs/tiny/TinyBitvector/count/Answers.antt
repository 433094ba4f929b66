-- The ranks at the four words, one after the other. Assumes nothing.
use Prim.Native.Nat.{ℕ}
use native.Mathlib.Omega.{arith}
use lib.ListN.{get_or}
use mir.Syntax.{w64}
use mir.Val.{Fits}
use Rattle.bitvector.proofs.Four.{four}
use borrow.Author.Rules.{rules}
use Rattle.bitvector.proofs.tiny.TinyBitvector.count.Goals as goal

pub returns : goal.returns
returns c =
    let ws = c.args.self.w in
    let fit : (i : ℕ) → Fits w64 (get_or ws i 0) = λ i. search rules in
    omega (arith, four ws (λ i. (fit i).fits))
