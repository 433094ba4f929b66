-- The word with that one bit made is stored; the answer is the bit before. Assumes nothing.
use Rattle.region.specs.Bits.{bit}
use Rattle.bitvector.proofs.Stores.{made}
use Rattle.bitvector.proofs.bitmap.clear.Goals as goal

pub returns : goal.returns
unfolding bit
returns c =
    let a = c.args in
    record {
      made = made a.s.now a.i 0 _ c.requires c.without.ensures.here c.without.ensures.other;
      was = c.test.ensures;
    }
