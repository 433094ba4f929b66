-- As many are passed over as there are. Assumes nothing.
use Rattle.arena.specs.Arena.{nodes_in}
use Rattle.trie_walk.proofs.Roots.{counted}
use Rattle.trie_walk.proofs.count.Goals as goal

pub returns : goal.returns
returns c = counted (nodes_in c.args.shape.slots c.args.arena.now) c.args.shape.b c.args.root _ _ _ _ c.args.shape.levels.1 c.pour-s.ensures
