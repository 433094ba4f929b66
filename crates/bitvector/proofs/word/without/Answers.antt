-- `&` with all bits but one, bit by bit. Assumes nothing.
use Rattle.bitvector.proofs.WordLaws.{clear-here, clear-other}
use Rattle.bitvector.proofs.word.without.Goals as goal

pub returns : goal.returns
returns c =
    record {
      here = clear-here c.args.w c.args.k c.requires;
      other = clear-other c.args.w c.args.k c.requires c.ranges.w.fits;
    }
