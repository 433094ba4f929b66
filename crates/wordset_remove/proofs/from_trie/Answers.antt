-- A trie with one suffix more than a vector holds becomes a vector, any other stays a trie. Assumes nothing.
use mathlib.Core.Path.{sym, ◌∙◌}
use Rattle.wordset_remove.proofs.Removing.{trie-more, trie-left}
use Rattle.wordset_remove.proofs.from_trie.Goals as goal

pub shrink-requires : goal.shrink-requires
shrink-requires c =
    record {
      well_formed = c.requires.well_formed;
      c_bound = c.requires.c_bound;
      c_value = c.requires.is_trie;
      s_bound = c.requires.s_bound;
      c_value_2 = sym c.size.ensures ∙ c.if-size.true;
    }

pub returns-then-size : goal.returns-then-size
returns-then-size c = trie-left c.args.region.now c.requires.well_formed c.args.c c.requires.c_bound c.requires.is_trie c.args.s c.shrink.result _ c.shrink.ensures

pub take-requires : goal.take-requires
take-requires c =
    record {
      well_formed = c.requires.well_formed;
      c_bound = c.requires.c_bound;
      c_value = c.requires.is_trie;
      s_bound = c.requires.s_bound;
      threshold_bound = trie-more c.args.region.now c.requires.well_formed c.args.c c.requires.c_bound c.requires.is_trie c.size.result c.size.ensures c.if-size.false;
    }

pub returns-else-size : goal.returns-else-size
returns-else-size c = trie-left c.args.region.now c.requires.well_formed c.args.c c.requires.c_bound c.requires.is_trie c.args.s c.take.result _ c.take.ensures
