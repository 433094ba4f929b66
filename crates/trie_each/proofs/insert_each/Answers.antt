-- The first i suffixes are members, and the node above the last of them is known. Assumes nothing.
use Rattle.trie_each.proofs.Running.{near, step}
use Rattle.trie_each.proofs.insert_each.Goals as goal

pub take_one-requires-clause-above : goal.take_one-requires-clause-above
take_one-requires-clause-above c = near _ _ _ _ _ _ _ _ _ _ _ c.loop-i.invariant _ c.beside-near.ensures

pub loop-i-preserved : goal.loop-i-preserved
loop-i-preserved c = step _ _ _ _ _ _ _ _ _ _ _ c.loop-i.invariant c.in-Ok.one _ c.loop-i-test.true c.in-Ok.ensures
