-- The bit, then the node. Assumes nothing.
use Rattle.arena.proofs.Stores.{uncompose, push-after}
use Rattle.arena.proofs.write.unhang.Goals as goal

pub returns : goal.returns
returns c =
    record {
      unhung = uncompose c.clear_bit.ensures.made c.free.ensures.freed c.requires.x_bound;
      pushed = push-after c.clear_bit.ensures.spare c.free.ensures.pushed;
    }
