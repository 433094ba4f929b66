-- s is the number that the bytes before j make. Assumes nothing.
use mathlib.Core.Path.{◌≡◌, refl, ap, ◌∙◌}
use Prim.Native.Nat.{ℕ, ◌<◌}
use native.Mathlib.Omega.{arith}
use lib.ListN.{get_or, length, take}
use mir.Syntax.{w8}
use mir.Val.{Fits}
use borrow.Author.Rules.{rules}
use Rattle.sliced_int.specs.Sliced.{number_of, number_in}
use Rattle.sliced_int.proofs.Laws.{number-next, four_bytes}
use Rattle.sliced_int.proofs.Taken.{taken-small, number-taken, long-taken}
use Rattle.sliced_int.proofs.SlicedInt.to_int.Goals as goal

pub loop-x-init : goal.loop-x-init
unfolding number_of
loop-x-init c = refl

pub overflow_mul-s : goal.overflow_mul-s
overflow_mul-s c =
    let xs = c.args.self.bytes in
    let fit : (i : ℕ) → Fits w8 (get_or xs i 0) = λ i. search rules in
    let small : (i : ℕ) → get_or (take c.args.self.len xs) i 0 < 256 = taken-small c.args.self.len xs (λ i. (fit i).fits) in
    let long : length (take c.args.self.len xs) ≡ c.args.self.len = long-taken c.args.self.len xs (search rules) in
    omega (arith, four_bytes (λ i. get_or (take c.args.self.len xs) i 0) c.loop-x.x-index small (omega (arith, c.loop-x-test.true, c.requires, long)))

pub overflow_add-s : goal.overflow_add-s
overflow_add-s c =
    let xs = c.args.self.bytes in
    let fit : (i : ℕ) → Fits w8 (get_or xs i 0) = λ i. search rules in
    let small : (i : ℕ) → get_or (take c.args.self.len xs) i 0 < 256 = taken-small c.args.self.len xs (λ i. (fit i).fits) in
    let long : length (take c.args.self.len xs) ≡ c.args.self.len = long-taken c.args.self.len xs (search rules) in
    omega (arith, small c.loop-x.x-index, four_bytes (λ i. get_or (take c.args.self.len xs) i 0) c.loop-x.x-index small (omega (arith, c.loop-x-test.true, c.requires, long)))

pub loop-x-preserved : goal.loop-x-preserved
loop-x-preserved c = omega (arith, number-next (λ i. get_or (take c.args.self.len c.args.self.bytes) i 0) c.loop-x.x-index)

pub returns : goal.returns
returns c =
    let l = c.loop-x in
    let xs = c.args.self.bytes in
    let n = c.args.self.len in
    let long : length (take n xs) ≡ n = long-taken n xs (search rules) in
    let e : l.x-index ≡ length (take n xs) = omega (arith, c.loop-x-test.false, l.auto.x-index-end) in
    l.invariant ∙ ap (number_in (take n xs)) e ∙ number-taken n xs (search rules)
