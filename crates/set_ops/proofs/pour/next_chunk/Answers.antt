-- What the walk wrote are the next suffixes. Assumes nothing.
use Rattle.set_ops.proofs.PourChunks.{walk-asks, chunk-written}
use Rattle.set_ops.proofs.pour.next_chunk.Goals as goal

pub walk_from-requires : goal.walk_from-requires
walk_from-requires c =
    let asks = walk-asks c.args.src.now c.requires.well_formed c.args.c c.requires.c_bound c.requires.c_value c.shape-shape.result.slots c.shape-shape.result.b c.link-root.result c.shape-shape.ensures.slots c.shape-shape.ensures.levels c.link-root.ensures in
    record { tries = asks.0; root = asks.1.0 }

pub returns : goal.returns
returns c =
    let is = chunk-written c.args.src.now c.requires.well_formed c.args.c c.requires.c_bound c.requires.c_value c.shape-shape.result.slots c.shape-shape.result.b c.link-root.result c.shape-shape.ensures.slots c.shape-shape.ensures.levels c.link-root.ensures c.args.from c.args.chunk.now c.requires.chunk_len c.walk_from.new.out c.walk_from.result c.walk_from.ensures.number c.walk_from.ensures.written in
    record { number = is.0; written = is.1 }
