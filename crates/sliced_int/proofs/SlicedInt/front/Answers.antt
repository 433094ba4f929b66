-- Five bytes with five zeros behind them fit a u128, so the shift loses nothing. Assumes nothing.
use mathlib.Core.Path.{◌≡◌, ap, ◌∙◌}
use Prim.Native.Nat.{ℕ, ◌*◌, ◌^◌, ◌<◌}
use native.Mathlib.Nat.{mod-eq_of_lt}
use lib.ListN.{get_or}
use mir.Syntax.{w8}
use mir.Val.{Fits}
use borrow.Author.Rules.{rules}
use Rattle.std.specs.Prelude.{min}
use Rattle.sliced_int.specs.Sliced.{number_in}
use Rattle.sliced_int.proofs.Scaled.{front-lt, ten-bytes}
use Rattle.sliced_int.proofs.SlicedInt.front.Goals as goal

pub returns : goal.returns
returns c =
    let xs = c.args.self.bytes in
    let v = number_in xs (min c.args.self.len 5) in
    let fit : (i : ℕ) → Fits w8 (get_or xs i 0) = λ i. search rules in
    let e : c.from.result ≡ v = c.from.ensures ∙ c.to_int-n.ensures ∙ ap (number_in xs) c.min-len.ensures in
    let s : v * 2 ^ (8 * min c.args.zeros 5) < 2 ^ 128 = ten-bytes v c.args.zeros (front-lt xs c.args.self.len (λ i. (fit i).fits)) in
    rw (e, c.min.ensures) (mod-eq_of_lt s)
