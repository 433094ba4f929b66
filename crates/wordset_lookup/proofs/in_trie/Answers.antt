-- Node stack and nodes are an arena, and the slot's link is a root in it. Assumes nothing.
use Rattle.wordset_lookup.proofs.Looks.{trie-ready, trie-says}
use Rattle.wordset_lookup.proofs.in_trie.Goals as goal

pub contains-requires : goal.contains-requires
contains-requires c =
    record {
      tries = (trie-ready c.args.region.now c.requires.well_formed c.args.c c.requires.c_bound c.requires.is_trie _ _ c.link-root.result c.shape-shape.ensures.slots c.shape-shape.ensures.levels c.link-root.ensures c.args.s c.requires.s_bound).0;
      root = (trie-ready c.args.region.now c.requires.well_formed c.args.c c.requires.c_bound c.requires.is_trie _ _ c.link-root.result c.shape-shape.ensures.slots c.shape-shape.ensures.levels c.link-root.ensures c.args.s c.requires.s_bound).1.0;
      suffix_bound = (trie-ready c.args.region.now c.requires.well_formed c.args.c c.requires.c_bound c.requires.is_trie _ _ c.link-root.result c.shape-shape.ensures.slots c.shape-shape.ensures.levels c.link-root.ensures c.args.s c.requires.s_bound).1.1.1.1;
    }

pub returns : goal.returns
returns c = trie-says c.args.region.now c.requires.well_formed c.args.c c.requires.c_bound c.requires.is_trie _ _ c.link-root.result c.shape-shape.ensures.slots c.shape-shape.ensures.levels c.link-root.ensures c.args.s c.contains.result c.contains.ensures
