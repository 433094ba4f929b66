-- The strip is copied out with the suffix behind it, and the arena is lent and given back; where a trie is planted its record, the nodes in use and the member count are stored. Assumes nothing.
use mathlib.Core.Path.{◌≡◌}
use native.Mathlib.Omega.{arith}
use lib.ListN.{length}
use borrow.Author.Rules.{rules}
use Rattle.std.proofs.lemmas.Result.{err_from_is_err_and}
use Rattle.wordset_vector.proofs.Counting.{count_small}
use Rattle.wordset_cross.proofs.Growing.{asked, grow-ready, grow-done, grow-full}
use Rattle.wordset_cross.proofs.grow.Goals as goal

pub overflow_add-more : goal.overflow_add-more
overflow_add-more c = omega (arith, count_small c.args.region.now c.requires.well_formed)

pub plant-requires : goal.plant-requires
plant-requires c =
    let long : length c.copy_out.new.out ≡ 1025 = search rules in
    record {
      arena = (asked c.args.region.now c.requires.well_formed c.args.c c.requires.c_bound c.requires.c_value c.requires.c_value_2 c.args.s c.requires.s_bound c.requires.c_value_3 c.copy_out.new.out long c.copy_out.ensures _ _ c.shape-shape.ensures.slots c.shape-shape.ensures.levels).0;
      in_bounds = (asked c.args.region.now c.requires.well_formed c.args.c c.requires.c_bound c.requires.c_value c.requires.c_value_2 c.args.s c.requires.s_bound c.requires.c_value_3 c.copy_out.new.out long c.copy_out.ensures _ _ c.shape-shape.ensures.slots c.shape-shape.ensures.levels).1.0;
      strip_len_bound = (asked c.args.region.now c.requires.well_formed c.args.c c.requires.c_bound c.requires.c_value c.requires.c_value_2 c.args.s c.requires.s_bound c.requires.c_value_3 c.copy_out.new.out long c.copy_out.ensures _ _ c.shape-shape.ensures.slots c.shape-shape.ensures.levels).1.1.0;
      by_index = (asked c.args.region.now c.requires.well_formed c.args.c c.requires.c_bound c.requires.c_value c.requires.c_value_2 c.args.s c.requires.s_bound c.requires.c_value_3 c.copy_out.new.out long c.copy_out.ensures _ _ c.shape-shape.ensures.slots c.shape-shape.ensures.levels).1.1.1.0;
      distinct = (asked c.args.region.now c.requires.well_formed c.args.c c.requires.c_bound c.requires.c_value c.requires.c_value_2 c.args.s c.requires.s_bound c.requires.c_value_3 c.copy_out.new.out long c.copy_out.ensures _ _ c.shape-shape.ensures.slots c.shape-shape.ensures.levels).1.1.1.1;
    }

pub settle-requires : goal.settle-requires
settle-requires c =
    let long : length c.copy_out.new.out ≡ 1025 = search rules in
    record {
      ready = (grow-ready c.args.region.now c.requires.well_formed c.args.c c.requires.c_bound c.requires.c_value c.requires.c_value_2 c.args.s c.requires.s_bound c.requires.c_value_3 c.copy_out.new.out long c.copy_out.ensures _ _ c.shape-shape.ensures.slots c.shape-shape.ensures.levels c.plant.result c.plant.new.arena c.plant.ensures c.in_ok-root.was).0;
      c_bound = (grow-ready c.args.region.now c.requires.well_formed c.args.c c.requires.c_bound c.requires.c_value c.requires.c_value_2 c.args.s c.requires.s_bound c.requires.c_value_3 c.copy_out.new.out long c.copy_out.ensures _ _ c.shape-shape.ensures.slots c.shape-shape.ensures.levels c.plant.result c.plant.new.arena c.plant.ensures c.in_ok-root.was).1;
    }

pub returns : goal.returns
returns c =
    let long : length c.copy_out.new.out ≡ 1025 = search rules in
    grow-done c.args.region.now c.requires.well_formed c.args.c c.requires.c_bound c.requires.c_value c.requires.c_value_2 c.args.s c.requires.s_bound c.requires.c_value_3 c.copy_out.new.out long c.copy_out.ensures _ _ c.shape-shape.ensures.slots c.shape-shape.ensures.levels c.plant.result c.plant.new.arena c.plant.ensures c.in_ok-root.was c.settle.ensures (omega arith) (omega arith)

pub returns-in_err-root : goal.returns-in_err-root
returns-in_err-root c =
    let long : length c.copy_out.new.out ≡ 1025 = search rules in
    let p = err_from_is_err_and c.from_residual.result c.from_residual.ensures.1 in
    rw p.1 (grow-full c.args.region.now c.requires.well_formed c.args.c c.requires.c_bound c.requires.c_value c.requires.c_value_2 c.args.s c.requires.s_bound c.requires.c_value_3 c.copy_out.new.out long c.copy_out.ensures _ _ c.shape-shape.ensures.slots c.shape-shape.ensures.levels c.plant.result c.plant.new.arena c.plant.ensures c.in_err-root.was)
