-- A shifted one is the power of two that the rest is taken by. Assumes nothing.
use mathlib.Core.Path.{◌≡◌, ap, ◌∙◌}
use Prim.Native.Nat.{ℕ, ◌*◌, ◌%◌, ◌^◌, ◌<◌}
use native.Mathlib.Nat.{one-mul}
use native.Mathlib.Omega.{arith}
use lib.Pow.{shl_exact, pow_pos}
use lib.Dec.{lit<}
use Rattle.wordset_lookup.proofs.suffix_of.Goals as goal

one_up : (k : ℕ) → k < 64 → (1 * 2 ^ k) % 2 ^ 64 ≡ 2 ^ k
one_up k h = shl_exact {a = 1} 1 k 64 (lit< tt) (omega arith) ∙ one-mul _

pub nonzero_rem-result : goal.nonzero_rem-result
nonzero_rem-result c = omega (arith, one_up c.args.bits (omega (arith, c.requires)), pow_pos c.args.bits)

pub returns : goal.returns
returns c = ap (λ (x : ℕ). c.args.w % x) (one_up c.args.bits (omega (arith, c.requires)))
