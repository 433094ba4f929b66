-- The library compares byte by byte, and the first byte that differs decides. Assumes nothing.
use mathlib.Core.Path.{◌≡◌}
use Prim.Native.Nat.{ℕ}
use lib.ListN.{get_or, length}
use mir.Syntax.{w8}
use mir.Val.{Fits}
use borrow.Author.Rules.{rules}
use Rattle.sliced_int.proofs.Orders.{compared}
use Rattle.sliced_int.proofs.compare_bytes.Goals as goal

pub returns : goal.returns
returns g c =
    let xs = c.args.mine in
    let ys = c.args.theirs in
    let mine : (i : ℕ) → Fits w8 (get_or xs i 0) = λ i. search rules in
    let theirs : (i : ℕ) → Fits w8 (get_or ys i 0) = λ i. search rules in
    let same : length ys ≡ length xs = search rules in
    compared xs ys c.cmp.result c.cmp.ensures same (λ i. (mine i).fits) (λ i. (theirs i).fits)
