-- The first suffixes are poured, and those that are left are the ones not below `from`. Assumes nothing.
use Rattle.std.proofs.Common.{◌≡◌, ◌-◌, sym, refl, ◌∙◌, arith}
use Rattle.region.specs.Read.{reading}
use Rattle.std.proofs.lemmas.Result.{err_from_is_err_and}
use Rattle.set_ops.specs.Poured.{wanted}
use Rattle.std.specs.Prelude.{is_ok}
use Rattle.set_ops.proofs.Pouring.{told-err, told-ok}
use Rattle.set_ops.proofs.Pouring.{framed_alike}
use Rattle.set_ops.proofs.Places.{taking-framed, taking-long}
use Rattle.set_ops.proofs.PourChunks.{going_start, chunk-fits, chunk-asks, going-halt, going_end, last-small, going_next, going_less}
use Rattle.set_ops.proofs.pour.pour_trie.Goals as goal

pub prefix-p-requires : goal.prefix-p-requires
prefix-p-requires c =
    record {
      ready = c.requires.well_formed.ready;
      c_bound = c.requires.c_bound;
    }

pub loop-from-init : goal.loop-from-init
loop-from-init c = going_start _ _ _ _ _ _ c.requires.well_formed_3 refl

pub slice_bounds-next_chunk-end : goal.slice_bounds-next_chunk-end
slice_bounds-next_chunk-end c = sym c.loop-from.invariant.long

pub next_chunk-n-requires : goal.next_chunk-n-requires
next_chunk-n-requires c =
    record {
      well_formed = c.requires.well_formed;
      c_bound = c.requires.c_bound;
      c_value = c.requires.c_value;
      chunk_len = c.loop-from.invariant.long;
    }

pub slice_bounds-take_over-end : goal.slice_bounds-take_over-end
slice_bounds-take_over-end c = chunk-fits c.args.source.set.now c.requires.well_formed c.args.c c.requires.c_bound c.requires.c_value (wanted (reading c.args.source.other.now) c.args.source.wanted) c.args.dest.now c.requires.alike c.loop-from.dest c.loop-from.chunk c.loop-from.from c.loop-from.invariant c.next_chunk-n.new.chunk c.next_chunk-n.result c.next_chunk-n.ensures.number c.next_chunk-n.ensures.written c.next_chunk-n.auto.chunk

pub take_over-requires : goal.take_over-requires
take_over-requires c =
    let e : c.next_chunk-n.result - 0 ≡ c.next_chunk-n.result = omega arith in
    record {
      well_formed = (taking-framed c.loop-from.invariant.taking).well-formed;
      well_formed_2 = c.requires.well_formed_2;
      alike = framed_alike c.requires.alike_2 (taking-framed c.loop-from.invariant.taking);
      p_bound = (chunk-asks c.args.source.set.now c.requires.well_formed c.args.c c.requires.c_bound c.requires.c_value (wanted (reading c.args.source.other.now) c.args.source.wanted) c.args.dest.now c.requires.alike c.loop-from.dest c.loop-from.chunk c.loop-from.from c.loop-from.invariant c.next_chunk-n.new.chunk c.next_chunk-n.result c.next_chunk-n.ensures.number c.next_chunk-n.ensures.written c.prefix-p.result c.prefix-p.ensures (c.next_chunk-n.result - 0) e).0;
      all_small = (chunk-asks c.args.source.set.now c.requires.well_formed c.args.c c.requires.c_bound c.requires.c_value (wanted (reading c.args.source.other.now) c.args.source.wanted) c.args.dest.now c.requires.alike c.loop-from.dest c.loop-from.chunk c.loop-from.from c.loop-from.invariant c.next_chunk-n.new.chunk c.next_chunk-n.result c.next_chunk-n.ensures.number c.next_chunk-n.ensures.written c.prefix-p.result c.prefix-p.ensures (c.next_chunk-n.result - 0) e).1;
    }

pub shape_of-dest-in_err-take_over : goal.shape_of-dest-in_err-take_over
shape_of-dest-in_err-take_over c = c.take_over.auto.dest ∙ taking-long c.requires.well_formed_3 c.loop-from.invariant.taking

pub returns-in_err-take_over : goal.returns-in_err-take_over
returns-in_err-take_over c =
    let e : c.next_chunk-n.result - 0 ≡ c.next_chunk-n.result = omega arith in
    let p = err_from_is_err_and c.from_residual.result c.from_residual.ensures.1 in
    rw p.1 (going-halt c.args.source.set.now c.requires.well_formed c.args.c c.requires.c_bound c.requires.c_value (wanted (reading c.args.source.other.now) c.args.source.wanted) c.args.dest.now c.requires.alike c.loop-from.dest c.loop-from.chunk c.loop-from.from c.loop-from.invariant c.next_chunk-n.new.chunk c.next_chunk-n.result c.next_chunk-n.ensures.number c.next_chunk-n.ensures.written c.prefix-p.result c.prefix-p.ensures (c.next_chunk-n.result - 0) e (is_ok c.take_over.result) c.take_over.new.dest c.take_over.ensures (told-err c.in_err-take_over.was))

pub shape_of-dest-then-n-lt-CHUNK : goal.shape_of-dest-then-n-lt-CHUNK
shape_of-dest-then-n-lt-CHUNK c = c.take_over.auto.dest ∙ taking-long c.requires.well_formed_3 c.loop-from.invariant.taking

pub returns-then-n-lt-CHUNK : goal.returns-then-n-lt-CHUNK
returns-then-n-lt-CHUNK c =
    let e : c.next_chunk-n.result - 0 ≡ c.next_chunk-n.result = omega arith in
    going_end c.args.source.set.now c.requires.well_formed c.args.c c.requires.c_bound c.requires.c_value (wanted (reading c.args.source.other.now) c.args.source.wanted) c.args.dest.now c.requires.alike c.loop-from.dest c.loop-from.chunk c.loop-from.from c.loop-from.invariant c.next_chunk-n.new.chunk c.next_chunk-n.result c.next_chunk-n.ensures.number c.next_chunk-n.ensures.written c.prefix-p.result c.prefix-p.ensures (c.next_chunk-n.result - 0) e (is_ok c.take_over.result) c.take_over.new.dest c.take_over.ensures (told-ok c.in_ok-take_over.was) c.if-n-lt-CHUNK.true

pub overflow_add-from : goal.overflow_add-from
overflow_add-from c =
    let e : c.next_chunk-n.result - 0 ≡ c.next_chunk-n.result = omega arith in
    omega (arith, last-small c.args.source.set.now c.requires.well_formed c.args.c c.requires.c_bound c.requires.c_value (wanted (reading c.args.source.other.now) c.args.source.wanted) c.args.dest.now c.requires.alike c.loop-from.dest c.loop-from.chunk c.loop-from.from c.loop-from.invariant c.next_chunk-n.new.chunk c.next_chunk-n.result c.next_chunk-n.ensures.number c.next_chunk-n.ensures.written c.prefix-p.result c.prefix-p.ensures (c.next_chunk-n.result - 0) e (is_ok c.take_over.result) c.take_over.new.dest c.take_over.ensures c.if-n-lt-CHUNK.false)

pub loop-from-smaller : goal.loop-from-smaller
loop-from-smaller c =
    let e : c.next_chunk-n.result - 0 ≡ c.next_chunk-n.result = omega arith in
    going_less c.args.source.set.now c.requires.well_formed c.args.c c.requires.c_bound c.requires.c_value (wanted (reading c.args.source.other.now) c.args.source.wanted) c.args.dest.now c.requires.alike c.loop-from.dest c.loop-from.chunk c.loop-from.from c.loop-from.invariant c.next_chunk-n.new.chunk c.next_chunk-n.result c.next_chunk-n.ensures.number c.next_chunk-n.ensures.written c.prefix-p.result c.prefix-p.ensures (c.next_chunk-n.result - 0) e (is_ok c.take_over.result) c.take_over.new.dest c.take_over.ensures c.if-n-lt-CHUNK.false

pub loop-from-preserved : goal.loop-from-preserved
loop-from-preserved c =
    let e : c.next_chunk-n.result - 0 ≡ c.next_chunk-n.result = omega arith in
    going_next c.args.source.set.now c.requires.well_formed c.args.c c.requires.c_bound c.requires.c_value (wanted (reading c.args.source.other.now) c.args.source.wanted) c.args.dest.now c.requires.alike c.loop-from.dest c.loop-from.chunk c.loop-from.from c.loop-from.invariant c.next_chunk-n.new.chunk c.next_chunk-n.result c.next_chunk-n.ensures.number c.next_chunk-n.ensures.written c.prefix-p.result c.prefix-p.ensures (c.next_chunk-n.result - 0) e (is_ok c.take_over.result) c.take_over.new.dest c.take_over.ensures c.if-n-lt-CHUNK.false (told-ok c.in_ok-take_over.was) c.next_chunk-n.auto.chunk
