-- The lower words whole, and the byte's own word below its bit. Assumes nothing.
use Prim.Native.Nat.{ℕ}
use native.Mathlib.Omega.{arith}
use lib.ListN.{get_or}
use mir.Syntax.{w64}
use mir.Val.{Fits}
use Rattle.bitvector.proofs.RankLaws.{rank-zero, rank-word, rank-in}
use borrow.Author.Rules.{rules}
use Rattle.bitvector.proofs.tiny.TinyBitvector.rank.Goals as goal

pub returns-then-x-lt64 : goal.returns-then-x-lt64
returns-then-x-lt64 c =
    let ws = c.args.self.w in
    let fit : (i : ℕ) → Fits w64 (get_or ws i 0) = λ i. search rules in
    omega (arith, rank-zero ws, rank-in ws c.args.x 0 (omega arith))

pub returns-then-x-lt128 : goal.returns-then-x-lt128
returns-then-x-lt128 c =
    let ws = c.args.self.w in
    let fit : (i : ℕ) → Fits w64 (get_or ws i 0) = λ i. search rules in
    omega (arith, rank-zero ws, rank-word ws 0 (fit 0).fits, rank-in ws c.args.x 1 (omega arith))

pub returns-then-x-lt192 : goal.returns-then-x-lt192
returns-then-x-lt192 c =
    let ws = c.args.self.w in
    let fit : (i : ℕ) → Fits w64 (get_or ws i 0) = λ i. search rules in
    omega (arith, rank-zero ws, rank-word ws 0 (fit 0).fits, rank-word ws 1 (fit 1).fits, rank-in ws c.args.x 2 (omega arith))

pub returns : goal.returns
returns c =
    let ws = c.args.self.w in
    let fit : (i : ℕ) → Fits w64 (get_or ws i 0) = λ i. search rules in
    omega (arith, rank-zero ws, rank-word ws 0 (fit 0).fits, rank-word ws 1 (fit 1).fits, rank-word ws 2 (fit 2).fits, rank-in ws c.args.x 3 (omega arith))
