-- The suffixes before those that are left are taken over; the slot, once it is known, is the prefix's. Assumes nothing.
use Rattle.std.proofs.Common.{refl, ap, ◌∙◌, arith}
use Rattle.std.specs.Slice.Iter.{chunks_rest, chunks_size}
use Rattle.std.proofs.lemmas.Result.{err_from_is_err_and}
use Rattle.set_ops.specs.Poured.{takes_own, takes_shared}
use Rattle.std.specs.Prelude.{is_ok}
use Rattle.set_ops.proofs.Pouring.{told-err, told-ok}
use Rattle.set_ops.proofs.TakeBlocks.{ask-start, ask-end, ask-long, ask-halt, ask-next, block-asks, front-is, kept-asks, other-prefix}
use Rattle.set_ops.proofs.take.take_asked.Goals as goal

pub slot_of-d-requires : goal.slot_of-d-requires
slot_of-d-requires c =
    record {
      well_formed = c.requires.well_formed_2;
      p_bound = other-prefix c.requires.well_formed c.requires.well_formed_2 c.requires.alike c.args.p c.requires.p_bound c.args.chunk.now c.requires.all_small (takes_shared c.args.wanted) (takes_own c.args.wanted);
      p_value = c.requires.p_value;
    }

pub loop-block-init : goal.loop-block-init
loop-block-init c = ask-start c.requires.well_formed c.requires.well_formed_2 c.requires.alike c.args.p c.requires.p_bound c.args.chunk.now c.requires.all_small (takes_shared c.args.wanted) (takes_own c.args.wanted) _ refl _ (ap chunks_size c.into_iter-block-iterator.ensures.into_iter_gives ∙ c.chunks-block-items.ensures.size) _ (ap chunks_rest c.into_iter-block-iterator.ensures.into_iter_gives ∙ c.chunks-block-items.ensures.rest)

pub keep_block-n-requires : goal.keep_block-n-requires
keep_block-n-requires c =
    record {
      well_formed = (block-asks c.requires.well_formed c.requires.well_formed_2 c.requires.alike c.args.p c.requires.p_bound c.args.chunk.now c.requires.all_small (takes_shared c.args.wanted) (takes_own c.args.wanted) c.loop-block.dest c.loop-block.kept c.loop-block.slot (chunks_size c.loop-block.block-iterator) (chunks_rest c.loop-block.block-iterator) c.loop-block.invariant c.requires.p_value c.slot_of-d.result c.slot_of-d.ensures c.in-Some.block.now (chunks_rest c.next.new.self) c.in-Some.ensures.steps.1.0 c.in-Some.ensures.steps.1.1).0;
      d_bound = (block-asks c.requires.well_formed c.requires.well_formed_2 c.requires.alike c.args.p c.requires.p_bound c.args.chunk.now c.requires.all_small (takes_shared c.args.wanted) (takes_own c.args.wanted) c.loop-block.dest c.loop-block.kept c.loop-block.slot (chunks_size c.loop-block.block-iterator) (chunks_rest c.loop-block.block-iterator) c.loop-block.invariant c.requires.p_value c.slot_of-d.result c.slot_of-d.ensures c.in-Some.block.now (chunks_rest c.next.new.self) c.in-Some.ensures.steps.1.0 c.in-Some.ensures.steps.1.1).1.0;
      d_nonzero = (block-asks c.requires.well_formed c.requires.well_formed_2 c.requires.alike c.args.p c.requires.p_bound c.args.chunk.now c.requires.all_small (takes_shared c.args.wanted) (takes_own c.args.wanted) c.loop-block.dest c.loop-block.kept c.loop-block.slot (chunks_size c.loop-block.block-iterator) (chunks_rest c.loop-block.block-iterator) c.loop-block.invariant c.requires.p_value c.slot_of-d.result c.slot_of-d.ensures c.in-Some.block.now (chunks_rest c.next.new.self) c.in-Some.ensures.steps.1.0 c.in-Some.ensures.steps.1.1).1.1.0;
      all_small = (block-asks c.requires.well_formed c.requires.well_formed_2 c.requires.alike c.args.p c.requires.p_bound c.args.chunk.now c.requires.all_small (takes_shared c.args.wanted) (takes_own c.args.wanted) c.loop-block.dest c.loop-block.kept c.loop-block.slot (chunks_size c.loop-block.block-iterator) (chunks_rest c.loop-block.block-iterator) c.loop-block.invariant c.requires.p_value c.slot_of-d.result c.slot_of-d.ensures c.in-Some.block.now (chunks_rest c.next.new.self) c.in-Some.ensures.steps.1.0 c.in-Some.ensures.steps.1.1).1.1.1.0;
      block_len_bound = (block-asks c.requires.well_formed c.requires.well_formed_2 c.requires.alike c.args.p c.requires.p_bound c.args.chunk.now c.requires.all_small (takes_shared c.args.wanted) (takes_own c.args.wanted) c.loop-block.dest c.loop-block.kept c.loop-block.slot (chunks_size c.loop-block.block-iterator) (chunks_rest c.loop-block.block-iterator) c.loop-block.invariant c.requires.p_value c.slot_of-d.result c.slot_of-d.ensures c.in-Some.block.now (chunks_rest c.next.new.self) c.in-Some.ensures.steps.1.0 c.in-Some.ensures.steps.1.1).1.1.1.1.0;
      kept_len = (block-asks c.requires.well_formed c.requires.well_formed_2 c.requires.alike c.args.p c.requires.p_bound c.args.chunk.now c.requires.all_small (takes_shared c.args.wanted) (takes_own c.args.wanted) c.loop-block.dest c.loop-block.kept c.loop-block.slot (chunks_size c.loop-block.block-iterator) (chunks_rest c.loop-block.block-iterator) c.loop-block.invariant c.requires.p_value c.slot_of-d.result c.slot_of-d.ensures c.in-Some.block.now (chunks_rest c.next.new.self) c.in-Some.ensures.steps.1.0 c.in-Some.ensures.steps.1.1).1.1.1.1.1;
    }

pub slice_bounds-put_under-end : goal.slice_bounds-put_under-end
slice_bounds-put_under-end c = omega (arith, c.keep_block-n.ensures.number, c.keep_block-n.auto.kept, c.loop-block.invariant.long)

pub put_under-requires : goal.put_under-requires
put_under-requires c =
    record {
      well_formed = (kept-asks c.requires.well_formed c.requires.well_formed_2 c.requires.alike c.args.p c.requires.p_bound c.args.chunk.now c.requires.all_small (takes_shared c.args.wanted) (takes_own c.args.wanted) c.loop-block.dest c.loop-block.kept c.loop-block.slot (chunks_size c.loop-block.block-iterator) (chunks_rest c.loop-block.block-iterator) c.loop-block.invariant c.requires.p_value c.slot_of-d.result c.slot_of-d.ensures c.in-Some.block.now (chunks_rest c.next.new.self) c.in-Some.ensures.steps.1.0 _ (front-is c.keep_block-n.result c.keep_block-n.new.kept _ c.keep_block-n.ensures.written)).0;
      p_bound = (kept-asks c.requires.well_formed c.requires.well_formed_2 c.requires.alike c.args.p c.requires.p_bound c.args.chunk.now c.requires.all_small (takes_shared c.args.wanted) (takes_own c.args.wanted) c.loop-block.dest c.loop-block.kept c.loop-block.slot (chunks_size c.loop-block.block-iterator) (chunks_rest c.loop-block.block-iterator) c.loop-block.invariant c.requires.p_value c.slot_of-d.result c.slot_of-d.ensures c.in-Some.block.now (chunks_rest c.next.new.self) c.in-Some.ensures.steps.1.0 _ (front-is c.keep_block-n.result c.keep_block-n.new.kept _ c.keep_block-n.ensures.written)).1.0;
      all_small = (kept-asks c.requires.well_formed c.requires.well_formed_2 c.requires.alike c.args.p c.requires.p_bound c.args.chunk.now c.requires.all_small (takes_shared c.args.wanted) (takes_own c.args.wanted) c.loop-block.dest c.loop-block.kept c.loop-block.slot (chunks_size c.loop-block.block-iterator) (chunks_rest c.loop-block.block-iterator) c.loop-block.invariant c.requires.p_value c.slot_of-d.result c.slot_of-d.ensures c.in-Some.block.now (chunks_rest c.next.new.self) c.in-Some.ensures.steps.1.0 _ (front-is c.keep_block-n.result c.keep_block-n.new.kept _ c.keep_block-n.ensures.written)).1.1.0;
      bears = (kept-asks c.requires.well_formed c.requires.well_formed_2 c.requires.alike c.args.p c.requires.p_bound c.args.chunk.now c.requires.all_small (takes_shared c.args.wanted) (takes_own c.args.wanted) c.loop-block.dest c.loop-block.kept c.loop-block.slot (chunks_size c.loop-block.block-iterator) (chunks_rest c.loop-block.block-iterator) c.loop-block.invariant c.requires.p_value c.slot_of-d.result c.slot_of-d.ensures c.in-Some.block.now (chunks_rest c.next.new.self) c.in-Some.ensures.steps.1.0 _ (front-is c.keep_block-n.result c.keep_block-n.new.kept _ c.keep_block-n.ensures.written)).1.1.1;
    }

pub shape_of-dest-in_err-slot : goal.shape_of-dest-in_err-slot
shape_of-dest-in_err-slot c = c.put_under.auto.dest ∙ ask-long c.requires.well_formed c.requires.well_formed_2 c.requires.alike c.args.p c.requires.p_bound c.args.chunk.now c.requires.all_small (takes_shared c.args.wanted) (takes_own c.args.wanted) c.loop-block.dest c.loop-block.kept c.loop-block.slot (chunks_size c.loop-block.block-iterator) (chunks_rest c.loop-block.block-iterator) c.loop-block.invariant

pub returns-in_err-slot : goal.returns-in_err-slot
returns-in_err-slot c =
    let p = err_from_is_err_and c.from_residual.result c.from_residual.ensures.1 in
    rw p.1 (ask-halt c.requires.well_formed c.requires.well_formed_2 c.requires.alike c.args.p c.requires.p_bound c.args.chunk.now c.requires.all_small (takes_shared c.args.wanted) (takes_own c.args.wanted) c.loop-block.dest c.loop-block.kept c.loop-block.slot (chunks_size c.loop-block.block-iterator) (chunks_rest c.loop-block.block-iterator) c.loop-block.invariant c.requires.p_value c.slot_of-d.result c.slot_of-d.ensures c.in-Some.block.now (chunks_rest c.next.new.self) c.in-Some.ensures.steps.1.0 _ (front-is c.keep_block-n.result c.keep_block-n.new.kept _ c.keep_block-n.ensures.written) (is_ok c.put_under.result) c.put_under.new.dest c.put_under.ensures.poured (told-err c.in_err-slot.was))

pub loop-block-preserved : goal.loop-block-preserved
loop-block-preserved c =
    ask-next c.requires.well_formed c.requires.well_formed_2 c.requires.alike c.args.p c.requires.p_bound c.args.chunk.now c.requires.all_small (takes_shared c.args.wanted) (takes_own c.args.wanted) c.loop-block.dest c.loop-block.kept c.loop-block.slot (chunks_size c.loop-block.block-iterator) (chunks_rest c.loop-block.block-iterator) c.loop-block.invariant c.requires.p_value c.slot_of-d.result c.slot_of-d.ensures c.in-Some.block.now (chunks_rest c.next.new.self) c.in-Some.ensures.steps.1.0 _ (front-is c.keep_block-n.result c.keep_block-n.new.kept _ c.keep_block-n.ensures.written) (is_ok c.put_under.result) c.put_under.new.dest c.put_under.ensures.poured (told-ok c.in_ok-slot.was) c.in_ok-slot.slot c.in_ok-slot.ensures.stays c.keep_block-n.new.kept c.keep_block-n.auto.kept _ c.in-Some.ensures.steps.0

pub shape_of-dest : goal.shape_of-dest
shape_of-dest c = ask-long c.requires.well_formed c.requires.well_formed_2 c.requires.alike c.args.p c.requires.p_bound c.args.chunk.now c.requires.all_small (takes_shared c.args.wanted) (takes_own c.args.wanted) c.loop-block.dest c.loop-block.kept c.loop-block.slot (chunks_size c.loop-block.block-iterator) (chunks_rest c.loop-block.block-iterator) c.loop-block.invariant

pub returns : goal.returns
returns c = ask-end c.requires.well_formed c.requires.well_formed_2 c.requires.alike c.args.p c.requires.p_bound c.args.chunk.now c.requires.all_small (takes_shared c.args.wanted) (takes_own c.args.wanted) c.loop-block.dest c.loop-block.kept c.loop-block.slot (chunks_size c.loop-block.block-iterator) (chunks_rest c.loop-block.block-iterator) c.loop-block.invariant c.in-None.ensures.steps.1.0
