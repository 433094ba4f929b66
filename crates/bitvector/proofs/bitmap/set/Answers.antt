-- The word with that one bit made is stored; the answer is the bit before. Assumes nothing.
use mathlib.Core.Path.{ap, ◌∙◌}
use mathlib.Core.Bool.{not}
use Prim.Native.Nat.{◌/◌, ◌%◌}
use lib.ListN.{get_or}
use Rattle.region.specs.Bits.{word_bit, bit}
use Rattle.bitvector.proofs.WordLaws.{bit-lt, not-one}
use Rattle.bitvector.proofs.Stores.{made}
use Rattle.bitvector.proofs.bitmap.set.Goals as goal

pub returns : goal.returns
unfolding bit
returns c =
    let a = c.args in
    let w = get_or a.s.now (a.i / 64) 0 in
    record {
      made = made a.s.now a.i 1 _ c.requires c.with.ensures.here c.with.ensures.other;
      was = ap not c.test.ensures ∙ not-one (word_bit w (a.i % 64)) (bit-lt w (a.i % 64));
    }
