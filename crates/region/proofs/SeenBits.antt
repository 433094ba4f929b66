-- What a bitmap says of a place is 0 or 1. Assumes nothing.
use Prim.Native.Nat.{ℕ, ◌/◌, ◌%◌, ◌^◌, ◌<◌}
use mathlib.Core.List.{List}
use native.Mathlib.Nat.{mod-lt, zero-lt-suc}
use lib.ListN.{get_or}
use Rattle.region.specs.Bits.{bit}
use Rattle.region.specs.Areas.{Numbers, bitmap}
use Rattle.region.specs.Seen.{seen}

pub seen-bits : (g : Numbers) (l : List ℕ) (p : ℕ) → (seen g l).bit p < 2
unfolding seen bit
seen-bits g l p = mod-lt (get_or (bitmap g l) (p / 64) 0 / 2 ^ (p % 64)) (zero-lt-suc 1)
