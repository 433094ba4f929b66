-- `& 1` is the remainder by 2. Assumes nothing.
use Rattle.bitvector.proofs.WordLaws.{test_word}
use Rattle.bitvector.proofs.word.test.Goals as goal

pub returns : goal.returns
returns c = test_word c.args.w c.args.k
