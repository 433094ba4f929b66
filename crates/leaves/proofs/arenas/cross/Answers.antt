-- A trie has no more members than the strip that it was made of. Assumes nothing.
use Rattle.leaves.proofs.Checking.{members-fit}
use Rattle.leaves.proofs.arenas.cross.Goals as goal

pub pour-requires-clause-root_in_bounds : goal.pour-requires-clause-root_in_bounds
pour-requires-clause-root_in_bounds c =
    let a = c.args in
    members-fit a.shape.slots a.shape.b a.used a.container a.strip.now a.arena.now c.plant.new.arena _ _ _ c.in_ok-root.ensures c.requires.strip_in_bounds
