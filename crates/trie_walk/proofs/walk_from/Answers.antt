-- Poured from the first place on, with nothing to pass over. Assumes nothing.
use Rattle.region.specs.Tries.{members}
use Rattle.arena.specs.Arena.{nodes_in}
use Rattle.trie_walk.specs.Pour.{not_below}
use Rattle.trie_walk.proofs.Roots.{written}
use Rattle.trie_walk.proofs.walk_from.Goals as goal

pub returns : goal.returns
returns c =
    let a = c.args in
    record {
      number = (written 0 _ _ (not_below a.from (members (nodes_in a.shape.slots a.arena.now) a.shape.b a.root)) a.out.now _ c.pour-s.ensures).0;
      written = (written 0 _ _ (not_below a.from (members (nodes_in a.shape.slots a.arena.now) a.shape.b a.root)) a.out.now _ c.pour-s.ensures).1;
    }
