-- A test of all entries, told by places. Assumes nothing.
use Rattle.leaves.proofs.Checking.{all-narrow}
use Rattle.leaves.proofs.checks.narrow.Goals as goal

pub returns : goal.returns
returns c = all-narrow c.args.b _ c.args.suffixes.now _ c.limit.ensures c.below.ensures
