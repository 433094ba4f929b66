-- The walk writes all members, and they are taken out again. Assumes nothing.
use Rattle.region.specs.Tries.{members}
use Rattle.arena.specs.Arena.{nodes_in}
use Rattle.trie_pour.proofs.Reaping.{written, in-front}
use Rattle.trie_pour.proofs.pour.Goals as goal

pub empty-requires : goal.empty-requires
empty-requires c =
    let a = c.args in
    record {
      arena = c.requires.arena;
      root = c.requires.root;
      root_value = in-front (members (nodes_in a.shape.slots a.arena.now) a.shape.b a.root) a.out.now c.requires.root_in_bounds _ _ c.walk-n.ensures.number c.walk-n.ensures.written;
    }

pub returns : goal.returns
returns c =
    let a = c.args in
    record {
      written = written (members (nodes_in a.shape.slots a.arena.now) a.shape.b a.root) a.out.now c.requires.root_in_bounds _ _ c.walk-n.ensures.number c.walk-n.ensures.written;
      vanished = c.empty.ensures;
    }
