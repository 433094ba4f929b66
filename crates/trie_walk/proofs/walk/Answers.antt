-- Poured from the first place on, the suffixes are a window. Assumes nothing.
use Rattle.region.specs.Tries.{members}
use Rattle.arena.specs.Arena.{nodes_in}
use Rattle.trie_walk.proofs.Roots.{no_room, written_all}
use Rattle.trie_walk.proofs.walk.Goals as goal

pub returns-then-out-eq0 : goal.returns-then-out-eq0
returns-then-out-eq0 c =
    let a = c.args in
    record {
      number = (no_room a.start (members (nodes_in a.shape.slots a.arena.now) a.shape.b a.root) a.out.now c.if-out-eq0.true).0;
      written = (no_room a.start (members (nodes_in a.shape.slots a.arena.now) a.shape.b a.root) a.out.now c.if-out-eq0.true).1;
    }

pub returns : goal.returns
returns c =
    let a = c.args in
    record {
      number = (written_all a.start _ _ (members (nodes_in a.shape.slots a.arena.now) a.shape.b a.root) a.out.now _ c.pour-s.ensures).0;
      written = (written_all a.start _ _ (members (nodes_in a.shape.slots a.arena.now) a.shape.b a.root) a.out.now _ c.pour-s.ensures).1;
    }
