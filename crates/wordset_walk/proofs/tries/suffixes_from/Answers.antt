-- Node stack and nodes are an arena, and the slot's link is a root in it: what is written are the slot's suffixes. Assumes nothing.
use Rattle.wordset_walk.proofs.Joining.{walk-ready, walk-wrote}
use Rattle.wordset_walk.proofs.tries.suffixes_from.Goals as goal

pub walk-requires : goal.walk-requires
walk-requires c =
    let s = c.shape-shape in
    let r = walk-ready c.args.region.now c.requires.well_formed c.args.c c.requires.c_bound c.requires.c_value s.result.slots s.result.b c.link-root.result s.ensures.slots s.ensures.levels c.link-root.ensures in
    record { tries = r.0; root = r.1.0 }

pub returns : goal.returns
returns c =
    let s = c.shape-shape in
    let w = walk-wrote c.args.region.now c.requires.well_formed c.args.c c.requires.c_bound c.requires.c_value s.result.slots s.result.b c.link-root.result s.ensures.slots s.ensures.levels c.link-root.ensures c.args.skip c.args.out.now c.walk.new.out c.walk.result c.walk.ensures.number c.walk.ensures.written in
    record { number = w.0; written = w.1 }
