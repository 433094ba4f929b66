-- Start, all levels but the last, and the last. Assumes nothing.
use Rattle.trie_look.proofs.Reaching.{answered}
use Rattle.trie_look.proofs.contains_each.Goals as goal

pub returns : goal.returns
returns c =
    let all = answered c.args.shape.slots c.args.shape.b c.args.arena.now c.requires.tries c.args.shape.levels.0 c.args.roots.now c.args.suffixes.now c.requires.roots_len c.requires.by_index c.requires.by_index_2 _ _ _ _ _
    c.start.ensures c.walk.ensures c.tell.ensures in
    record { each = all.0; long = all.1.0; later = all.1.1 }
