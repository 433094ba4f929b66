-- At first the rank lies anywhere among the containers in use. Assumes nothing.
use Rattle.lens.proofs.Ranks.{search-start}
use Rattle.lens.proofs.rank.first_window.Goals as goal

pub returns-else-k-gt-MANY : goal.returns-else-k-gt-MANY
returns-else-k-gt-MANY c = search-start c.requires.well_formed c.args.p c.k-k.result c.requires.p_bound c.k-k.ensures
