-- A walk over one word hands it out. Assumes nothing.
use Rattle.wordset_walk.proofs.Singles.{no_word, a_word}
use Rattle.wordset_walk.proofs.walker.next.Goals as goal

pub returns-then-words_from-eq0 : goal.returns-then-words_from-eq0
returns-then-words_from-eq0 c = no_word c.args.region.now c.args.place c.words_from.result c.words_from.ensures.number c.if-words_from-eq0.true

pub returns : goal.returns
returns c = a_word c.args.region.now c.args.place c.words_from.result _ c.words_from.new.out c.words_from.ensures.number c.if-words_from-eq0.false c.words_from.ensures.written
