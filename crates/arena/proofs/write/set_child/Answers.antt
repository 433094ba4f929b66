-- One word. Assumes nothing.
use Rattle.arena.proofs.Stores.{child-put}
use Rattle.arena.proofs.write.set_child.Goals as goal

pub returns : goal.returns
returns c =
    let p = c.put.ensures in
    record {
      made = child-put c.args.slots c.args.arena.now _ c.args.n c.args.x c.args.f c.requires.x_bound p;
      spare = p.spare;
    }
