-- `bitmap_words` meets its contract: at P up to 24 the shift loses no bit. Assumes nothing.
use mathlib.Core.Path.{◌≡◌}
use Prim.Native.Nat.{ℕ, ◌*◌, ◌%◌, ◌^◌, ◌≤◌}
use native.Mathlib.Omega.{arith}
use lib.Dec.{lit<}
use lib.Pow.{shl_exact, pow_mono}
use Rattle.region.specs.Geometry.{bitmap_words}
use Rattle.make.proofs.geometry.bitmap_words.Goals as goal

exact : (p : ℕ) → p ≤ 24 → (1 * 2 ^ p) % 2 ^ 64 ≡ 1 * 2 ^ p
exact p h = shl_exact 1 p 64 (lit< tt) (omega arith)

top : (p : ℕ) → p ≤ 24 → 2 ^ p ≤ 16777216
top p h = pow_mono h

pub returns : goal.returns
unfolding bitmap_words
returns c = omega (arith, exact c.args.p (omega arith), top c.args.p (omega arith), c.max.ensures)
