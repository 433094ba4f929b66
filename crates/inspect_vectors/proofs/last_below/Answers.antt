-- None are below any bound; of some the last one says it. Assumes nothing.
use mathlib.Core.Path.{sym}
use Rattle.inspect_vectors.proofs.LastOne.{last_one}
use Rattle.inspect_vectors.proofs.last_below.Goals as goal

pub returns-in-Some : goal.returns-in-Some
returns-in-Some c = last_one c.args.suffixes.now c.args.bound c.in-Some.last.now c.requires (sym c.in-Some.ensures.value)
