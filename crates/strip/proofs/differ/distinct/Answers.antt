-- What ascends differs; else as the two other tests say. Assumes nothing.
use Rattle.lists.proofs.Laws.{ascending-distinct}
use Rattle.strip.proofs.differ.distinct.Goals as goal

pub returns-then-rising-clause-yes : goal.returns-then-rising-clause-yes
returns-then-rising-clause-yes c = λ _. ascending-distinct c.args.entries.now (c.rising.ensures.yes c.if-rising.true)
