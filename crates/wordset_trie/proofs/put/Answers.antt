-- The arena is lent and given back; after a new suffix the length, the nodes in use and the member count are stored. Assumes nothing.
use mathlib.Core.Path.{ap, ◌∙◌}
use native.Mathlib.Omega.{arith}
use Rattle.std.specs.Prelude.{Ok}
use Rattle.wordset_vector.proofs.Counting.{count_small}
use Rattle.wordset_trie.proofs.Lent.{size-counted, asked-arena, asked-root, asked-suffix}
use Rattle.wordset_trie.proofs.Putting.{put-ready, put-new, put-old, put_full}
use Rattle.wordset_trie.proofs.put.Goals as goal

pub overflow_add-grown : goal.overflow_add-grown
overflow_add-grown c = omega (arith, c.size-len.ensures, size-counted c.args.region.now c.requires.well_formed c.args.c c.requires.c_bound c.requires.c_value, count_small c.args.region.now c.requires.well_formed)

pub overflow_add-more : goal.overflow_add-more
overflow_add-more c = omega (arith, count_small c.args.region.now c.requires.well_formed)

pub insert-requires : goal.insert-requires
insert-requires c =
    record {
      arena = asked-arena c.args.region.now c.requires.well_formed c.args.c c.requires.c_bound c.requires.c_value c.shape-shape.ensures.slots c.shape-shape.ensures.levels;
      root = asked-root c.args.region.now c.requires.well_formed c.args.c c.requires.c_bound c.requires.c_value c.shape-shape.ensures.slots c.shape-shape.ensures.levels c.link-root.ensures;
      suffix_bound = asked-suffix c.args.region.now c.requires.well_formed c.args.c c.requires.c_bound c.requires.c_value c.shape-shape.ensures.slots c.shape-shape.ensures.levels c.requires.s_bound;
    }

pub settle-requires : goal.settle-requires
settle-requires c =
    record {
      ready = (put-ready c.args.region.now c.requires.well_formed c.args.c c.requires.c_bound c.requires.c_value c.link-root.result c.args.s c.insert.result c.insert.new.arena c.link-root.ensures _ _ c.shape-shape.ensures.slots c.shape-shape.ensures.levels c.insert.ensures (c.in-Ok-Some.is ∙ ap Ok c.in-Ok-Some.field-0-is)).0;
      c_bound = (put-ready c.args.region.now c.requires.well_formed c.args.c c.requires.c_bound c.requires.c_value c.link-root.result c.args.s c.insert.result c.insert.new.arena c.link-root.ensures _ _ c.shape-shape.ensures.slots c.shape-shape.ensures.levels c.insert.ensures (c.in-Ok-Some.is ∙ ap Ok c.in-Ok-Some.field-0-is)).1;
    }

pub returns-in-Ok-Some : goal.returns-in-Ok-Some
returns-in-Ok-Some c = put-new c.args.region.now c.requires.well_formed c.args.c c.requires.c_bound c.requires.c_value c.link-root.result c.args.s c.insert.result c.insert.new.arena c.link-root.ensures _ _ c.shape-shape.ensures.slots c.shape-shape.ensures.levels c.insert.ensures (c.in-Ok-Some.is ∙ ap Ok c.in-Ok-Some.field-0-is) c.requires.s_bound c.settle.ensures (omega (arith, c.size-len.ensures)) (omega arith)

pub returns-in-Ok-None : goal.returns-in-Ok-None
returns-in-Ok-None c = put-old c.args.region.now c.requires.well_formed c.args.c c.requires.c_bound c.requires.c_value c.link-root.result c.args.s c.insert.result c.insert.new.arena c.link-root.ensures _ _ c.shape-shape.ensures.slots c.shape-shape.ensures.levels c.insert.ensures (c.in-Ok-None.is ∙ ap Ok c.in-Ok-None.field-0-is)

pub returns-in-Err : goal.returns-in-Err
returns-in-Err c = put_full c.args.region.now c.requires.well_formed c.args.c c.requires.c_bound c.requires.c_value c.link-root.result c.args.s c.insert.result c.insert.new.arena c.link-root.ensures _ _ c.shape-shape.ensures.slots c.shape-shape.ensures.levels c.insert.ensures c.in-Err.is
