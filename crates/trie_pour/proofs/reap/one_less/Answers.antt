-- The removal answers that the suffix is gone, or with it the trie: it was a member. Assumes nothing.
use Rattle.region.proofs.Listing.{member-small}
use Rattle.arena.specs.Arena.{nodes_in}
use Rattle.trie_pour.proofs.Reaping.{only_gone}
use Rattle.trie_pour.proofs.reap.one_less.Goals as goal

pub remove-requires-clause-suffix_bound : goal.remove-requires-clause-suffix_bound
remove-requires-clause-suffix_bound c =
    let a = c.args in member-small (nodes_in a.shape.slots a.arena.now) a.shape.b a.root a.suffix c.requires.root_value

pub returns-in-Gone-clause-vanished : goal.returns-in-Gone-clause-vanished
returns-in-Gone-clause-vanished c q = only_gone _ _ _ _ _ _ _ _ c.in-Gone.ensures.1 q
