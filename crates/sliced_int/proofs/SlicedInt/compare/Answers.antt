-- Zeros that stand behind both say nothing, and more than five behind one no more than five. Assumes nothing.
use mathlib.Core.Path.{◌≡◌, sym, ap, ap₂, ◌∙◌}
use Prim.Native.Nat.{ℕ, ◌-◌, ◌*◌, ◌^◌}
use lib.ListN.{get_or}
use mir.Syntax.{w8}
use mir.Val.{Fits}
use borrow.Author.Rules.{rules}
use Rattle.std.specs.Prelude.{min}
use Rattle.sliced_int.specs.Sliced.{number_in}
use Rattle.sliced_int.specs.Ordered.{order_of}
use Rattle.sliced_int.proofs.Orders.{ordered}
use Rattle.sliced_int.proofs.Scaled.{front-lt, with-zeros, of-any}
use Rattle.sliced_int.proofs.SlicedInt.compare.Goals as goal

pub returns : goal.returns
returns c =
    let xs = c.args.self.bytes in
    let ys = c.args.other.bytes in
    let n = c.args.self.len in
    let m = c.args.other.len in
    let mine : (i : ℕ) → Fits w8 (get_or xs i 0) = λ i. search rules in
    let theirs : (i : ℕ) → Fits w8 (get_or ys i 0) = λ i. search rules in
    let v = number_in xs (min n 5) in
    let w = number_in ys (min m 5) in
    let a : c.front-number.result ≡ v * 2 ^ (8 * min (n - 5 - (m - 5)) 5) = c.front-number.ensures ∙ ap (λ (k : ℕ). v * 2 ^ (8 * min k 5)) (c.saturating_sub.ensures ∙ ap₂ ◌-◌ c.saturating_sub-mine.ensures c.saturating_sub-theirs.ensures) in
    let b : c.front.result ≡ w * 2 ^ (8 * min (m - 5 - (n - 5)) 5) = c.front.ensures ∙ ap (λ (k : ℕ). w * 2 ^ (8 * min k 5)) (c.saturating_sub-2.ensures ∙ ap₂ ◌-◌ c.saturating_sub-theirs.ensures c.saturating_sub-mine.ensures) in
    c.cmp.ensures
    ∙ ordered c.front-number.result c.front.result
    ∙ ap₂ order_of a b
    ∙ of-any v w (n - 5) (m - 5) (front-lt xs n (λ i. (mine i).fits)) (front-lt ys m (λ i. (theirs i).fits))
    ∙ sym (ap₂ order_of (with-zeros xs n (search rules)) (with-zeros ys m (search rules)))
