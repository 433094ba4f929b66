-- Two stores. Assumes nothing.
use Rattle.std.proofs.Common.{rules}
use Rattle.strip.proofs.MarkLaws.{marking}
use Rattle.strip.proofs.differ.mark.Goals as goal

pub returns : goal.returns
returns c = marking c.args.marks.now c.args.x c.near_of.result c.far_of.result (search rules) c.near_of.ensures c.far_of.ensures
