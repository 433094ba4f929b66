-- The arena is lent and given back once; then the length, the nodes in use and the member count are stored. Assumes nothing.
use native.Mathlib.Omega.{arith}
use Rattle.wordset_vector.proofs.Counting.{count_small}
use Rattle.wordset_trie.proofs.Lent.{asked-arena, asked-root, asked-suffix}
use Rattle.wordset_trie.proofs.Each.{each-few, each-ready, each-put}
use Rattle.wordset_trie.proofs.put_each.Goals as goal

pub insert_each-many-requires : goal.insert_each-many-requires
insert_each-many-requires c =
    record {
      arena = asked-arena c.args.region.now c.requires.well_formed c.args.c c.requires.c_bound c.requires.c_value c.shape-shape.ensures.slots c.shape-shape.ensures.levels;
      root = asked-root c.args.region.now c.requires.well_formed c.args.c c.requires.c_bound c.requires.c_value c.shape-shape.ensures.slots c.shape-shape.ensures.levels c.link-root.ensures;
      by_index = λ i h. asked-suffix c.args.region.now c.requires.well_formed c.args.c c.requires.c_bound c.requires.c_value c.shape-shape.ensures.slots c.shape-shape.ensures.levels (c.requires.by_index i h);
    }

pub overflow_add-len : goal.overflow_add-len
overflow_add-len c = omega (arith, c.size-len.ensures, each-few c.args.region.now c.requires.well_formed c.args.c c.requires.c_bound c.requires.c_value c.link-root.result c.args.suffixes.now c.insert_each-many.result c.insert_each-many.new.arena c.link-root.ensures c.requires.by_index _ _ c.shape-shape.ensures.slots c.shape-shape.ensures.levels c.insert_each-many.ensures)

pub overflow_add-count : goal.overflow_add-count
overflow_add-count c = omega (arith, each-few c.args.region.now c.requires.well_formed c.args.c c.requires.c_bound c.requires.c_value c.link-root.result c.args.suffixes.now c.insert_each-many.result c.insert_each-many.new.arena c.link-root.ensures c.requires.by_index _ _ c.shape-shape.ensures.slots c.shape-shape.ensures.levels c.insert_each-many.ensures, count_small c.args.region.now c.requires.well_formed)

pub settle-requires : goal.settle-requires
settle-requires c =
    record {
      ready = (each-ready c.args.region.now c.requires.well_formed c.args.c c.requires.c_bound c.requires.c_value c.link-root.result c.args.suffixes.now c.insert_each-many.result c.insert_each-many.new.arena c.link-root.ensures c.requires.by_index _ _ c.shape-shape.ensures.slots c.shape-shape.ensures.levels c.insert_each-many.ensures).0;
      c_bound = (each-ready c.args.region.now c.requires.well_formed c.args.c c.requires.c_bound c.requires.c_value c.link-root.result c.args.suffixes.now c.insert_each-many.result c.insert_each-many.new.arena c.link-root.ensures c.requires.by_index _ _ c.shape-shape.ensures.slots c.shape-shape.ensures.levels c.insert_each-many.ensures).1;
    }

pub returns : goal.returns
returns c = each-put c.args.region.now c.requires.well_formed c.args.c c.requires.c_bound c.requires.c_value c.link-root.result c.args.suffixes.now c.insert_each-many.result c.insert_each-many.new.arena c.link-root.ensures c.requires.by_index _ _ c.shape-shape.ensures.slots c.shape-shape.ensures.levels c.insert_each-many.ensures c.settle.ensures (omega (arith, c.size-len.ensures)) (omega arith)
