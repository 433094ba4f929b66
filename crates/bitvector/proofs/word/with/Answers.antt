-- `|` with one bit, bit by bit. Assumes nothing.
use Rattle.bitvector.proofs.WordLaws.{set_here, set_other}
use Rattle.bitvector.proofs.word.with.Goals as goal

pub returns : goal.returns
returns c =
    record {
      here = set_here c.args.w c.args.k c.requires;
      other = set_other c.args.w c.args.k c.requires;
    }
