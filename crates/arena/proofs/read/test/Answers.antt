-- The word of the map, and its bit. Assumes nothing.
use mathlib.Core.Path.{◌∙◌, ap}
use Prim.Native.Nat.{ℕ, ◌%◌}
use lib.Dec.{eqb}
use Rattle.region.specs.Bits.{word_bit}
use Rattle.arena.proofs.read.test.Goals as goal

-- src/read.rt:59:1
pub returns : goal.returns
returns c = c.test.ensures ∙ ap (λ (w : ℕ). eqb (word_bit w (c.args.x % 64)) 1) c.word.ensures
