-- The first entries of the strip are the suffixes. Assumes nothing.
use Rattle.std.proofs.Common.{refl, arith}
use Rattle.region.specs.Read.{reading}
use Rattle.wordset_lookup.proofs.Looks.{entries-inside}
use Rattle.set_ops.specs.Poured.{wanted}
use Rattle.std.specs.Prelude.{is_ok}
use Rattle.set_ops.proofs.Sources.{vector-ready, vector-poured}
use Rattle.set_ops.proofs.pour.pour_vector.Goals as goal

pub overflow_add-strip : goal.overflow_add-strip
overflow_add-strip c = omega (arith, entries-inside c.args.source.set.now c.requires.well_formed c.args.c c.requires.c_bound c.requires.c_value c.size-len.result c.size-len.ensures)

pub slice_bounds-strip-end : goal.slice_bounds-strip-end
slice_bounds-strip-end c = omega (arith, entries-inside c.args.source.set.now c.requires.well_formed c.args.c c.requires.c_bound c.requires.c_value c.size-len.result c.size-len.ensures)

pub take_over-requires : goal.take_over-requires
take_over-requires c =
    record {
      well_formed = c.requires.well_formed_3;
      well_formed_2 = c.requires.well_formed_2;
      alike = c.requires.alike_2;
      p_bound = (vector-ready c.args.source.set.now c.requires.well_formed c.args.c c.requires.c_bound c.args.dest.now c.requires.alike c.prefix-p.result c.prefix-p.ensures c.requires.c_value _ c.size-len.result refl c.size-len.ensures).0;
      all_small = (vector-ready c.args.source.set.now c.requires.well_formed c.args.c c.requires.c_bound c.args.dest.now c.requires.alike c.prefix-p.result c.prefix-p.ensures c.requires.c_value _ c.size-len.result refl c.size-len.ensures).1;
    }

pub returns : goal.returns
returns c = vector-poured c.args.source.set.now c.requires.well_formed c.args.c c.requires.c_bound c.args.dest.now c.requires.alike c.prefix-p.result c.prefix-p.ensures c.requires.c_value _ c.size-len.result refl c.size-len.ensures (wanted (reading c.args.source.other.now) c.args.source.wanted) (is_ok c.take_over.result) c.take_over.new.dest c.take_over.ensures
