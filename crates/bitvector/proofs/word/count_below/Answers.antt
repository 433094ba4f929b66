-- The mask is the remainder by 2 ^ k. Assumes nothing.
use native.Mathlib.Omega.{arith}
use mathlib.Core.Path.{ap, ◌∙◌}
use lib.Count.{ones}
use lib.Pow.{pow_pos}
use Rattle.bitvector.proofs.WordLaws.{shl_one, below_word}
use Rattle.bitvector.proofs.word.count_below.Goals as goal

pub overflow_sub-k : goal.overflow_sub-k
overflow_sub-k c = omega (arith, shl_one c.args.k c.requires, pow_pos c.args.k)

pub returns : goal.returns
returns c =
    record {
      is = c.count.ensures.is ∙ ap ones (below_word c.args.w c.args.k c.requires);
      few = c.count.ensures.few;
    }
