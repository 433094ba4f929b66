-- The library compares byte by byte, and the first byte that differs decides. Assumes nothing.
use mathlib.Core.Path.{◌≡◌, sym, ◌∙◌, ap₂}
use Prim.Native.Nat.{ℕ, ◌≤◌}
use lib.ListN.{get_or, length, take}
use mir.Syntax.{w8}
use mir.Val.{Fits}
use borrow.Author.Rules.{rules}
use Rattle.sliced_int.specs.Ordered.{order_of}
use Rattle.sliced_int.proofs.Orders.{compared}
use Rattle.sliced_int.proofs.Taken.{taken-small, number-taken, long-taken}
use Rattle.sliced_int.proofs.SlicedInt.compare_same_len.Goals as goal

pub returns : goal.returns
returns c =
    let xs = c.args.self.bytes in
    let ys = c.args.other.bytes in
    let n = c.args.self.len in
    let m = c.args.other.len in
    let mine : (i : ℕ) → Fits w8 (get_or xs i 0) = λ i. search rules in
    let theirs : (i : ℕ) → Fits w8 (get_or ys i 0) = λ i. search rules in
    let in_mine : n ≤ length xs = search rules in
    let in_theirs : m ≤ length ys = search rules in
    let same : length (take m ys) ≡ length (take n xs) = long-taken m ys in_theirs ∙ c.requires.1 ∙ sym (long-taken n xs in_mine) in
    compared (take n xs) (take m ys) c.cmp.result c.cmp.ensures same (taken-small n xs (λ i. (mine i).fits)) (taken-small m ys (λ i. (theirs i).fits))
    ∙ ap₂ order_of (number-taken n xs in_mine) (number-taken m ys in_theirs)
