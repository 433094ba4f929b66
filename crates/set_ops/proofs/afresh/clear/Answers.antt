-- The fresh image of the header's own numbers. Assumes nothing.
use Rattle.set_ops.proofs.Clearing.{clear-ready, cleared}
use Rattle.set_ops.proofs.afresh.clear.Goals as goal

pub fresh_into-requires : goal.fresh_into-requires
fresh_into-requires c = clear-ready c.args.dest.now c.requires _ c.new-g.ensures

pub returns : goal.returns
returns c = cleared c.args.dest.now c.requires _ c.new-g.ensures _ c.fresh_into.ensures
