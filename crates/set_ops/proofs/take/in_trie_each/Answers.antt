-- Node stack and nodes are an arena, and the slot's link is a root in it. Assumes nothing.
use Rattle.set_ops.proofs.TakeLooks.{trie-asks, trie-each}
use Rattle.set_ops.proofs.take.in_trie_each.Goals as goal

pub contains_each-requires : goal.contains_each-requires
contains_each-requires c =
    let asks = trie-asks c.args.other.now c.requires.well_formed c.args.d c.requires.d_bound c.requires.d_value c.shape-shape.result.slots c.shape-shape.result.b c.link.result c.shape-shape.ensures.slots c.shape-shape.ensures.levels c.link.ensures c.args.suffixes.now c.requires.all_small c.requires.suffixes_len_bound c.requires.suffixes_in_bounds in
    record {
      tries = asks.0;
      suffixes_len_bound = asks.1.0;
      roots_len = asks.1.1.0;
      suffixes_in_bounds = asks.1.1.1.0;
      by_index = asks.1.1.1.1.0;
      by_index_2 = asks.1.1.1.1.1;
    }

pub returns : goal.returns
returns c = trie-each c.args.other.now c.requires.well_formed c.args.d c.requires.d_bound c.requires.d_value c.shape-shape.result.slots c.shape-shape.result.b c.link.result c.shape-shape.ensures.slots c.shape-shape.ensures.levels c.link.ensures c.args.suffixes.now c.requires.all_small c.requires.suffixes_len_bound c.args.flags.now c.contains_each.new.answers c.contains_each.ensures.each
