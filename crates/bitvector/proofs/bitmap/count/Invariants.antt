-- Each turn adds a word's count to the rank at the word. Assumes nothing.
use mathlib.Core.Path.{◌≡◌}
use Prim.Native.Nat.{◌*◌}
use Rattle.region.specs.Bits.{rank}
use Rattle.bitvector.proofs.bitmap.count.Given as goal

abbrev pub invariant-loop-w : goal.invariant-loop-w
invariant-loop-w l = l.sum ≡ rank l.s (l.w-index * 64)
