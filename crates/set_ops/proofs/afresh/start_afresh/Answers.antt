-- `start_afresh` meets its contract: counts, bitmap, slots and nodes, one after the other, look as in the fresh image. Assumes nothing.
use Rattle.std.proofs.Common.{◌∙◌, arith, length-set}
use Rattle.make.proofs.Image.{le-eq}
use Rattle.set_ops.proofs.AfreshSteps.{bitmap-end, slots_end, nodes-end, counted-long, started}
use Rattle.set_ops.proofs.afresh.start_afresh.Goals as goal

pub bounds-dest-6 : goal.bounds-dest-6
bounds-dest-6 c = simp length-set (omega arith)

pub bounds-dest-7 : goal.bounds-dest-7
bounds-dest-7 c = simp length-set (omega arith)

pub slice_bounds-zero-end : goal.slice_bounds-zero-end
slice_bounds-zero-end c = le-eq (bitmap-end c.args.dest.now c.requires) (counted-long c.args.dest.now c.requires)

pub slice_bounds-free_slots-end : goal.slice_bounds-free_slots-end
slice_bounds-free_slots-end c = le-eq (slots_end c.args.dest.now c.requires) (c.dest-1.given.1 ∙ counted-long c.args.dest.now c.requires)

pub slice_bounds-free_nodes-end : goal.slice_bounds-free_nodes-end
slice_bounds-free_nodes-end c = le-eq (nodes-end c.args.dest.now c.requires) (c.dest-2-1.given.1 ∙ c.dest-1.given.1 ∙ counted-long c.args.dest.now c.requires)

pub shape_of-dest : goal.shape_of-dest
shape_of-dest c = c.dest-3-1.given.1 ∙ c.dest-2-1.given.1 ∙ c.dest-1.given.1 ∙ counted-long c.args.dest.now c.requires

pub returns : goal.returns
returns c =
    started c.args.dest.now c.requires c.zero.new.s c.zero.ensures c.free_slots.new.s c.free_slots.ensures
    c.free_nodes.new.s c.dest-3-1.given.1 c.free_nodes.ensures.stack c.free_nodes.ensures.levels c.free_nodes.ensures.places
