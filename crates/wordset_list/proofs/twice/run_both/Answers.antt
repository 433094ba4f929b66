-- What the two calls promise, put together. Assumes nothing.
use Rattle.wordset_list.proofs.TwoRuns.{end-alike}
use Rattle.wordset_list.proofs.twice.run_both.Goals as goal

pub returns : goal.returns
returns c = end-alike c.list-first.ensures c.list-second.ensures
