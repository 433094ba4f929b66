-- The word as it is, none of it, or what is left when the bits below the bound are shifted out. Assumes nothing.
use Rattle.trie_walk.proofs.Onward.{word-whole, word_none, word_some}
use Rattle.trie_walk.proofs.words.not_below.Goals as goal

pub returns-then-from-base : goal.returns-then-from-base
returns-then-from-base c = word-whole c.args.w c.args.base c.args.from c.if-from-base.true

pub returns-then-k-ge64 : goal.returns-then-k-ge64
returns-then-k-ge64 c = let a = c.args in word_none a.w a.base a.from c.if-k-ge64.true

pub returns : goal.returns
returns c = word_some c.args.w c.args.base c.args.from c.ranges.w.fits c.if-from-base.false
