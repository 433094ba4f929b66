-- The entries are searched; the place that is found is the suffix's, and the length says whether it is the only one. Assumes nothing.
use mathlib.Core.Path.{refl, sym, ◌∙◌}
use native.Mathlib.Omega.{arith}
use Rattle.wordset_lookup.proofs.Looks.{entries-inside}
use Rattle.wordset_remove.proofs.Removing.{nothing-there, place_inside, several, closed-left, took-left}
use Rattle.wordset_remove.proofs.from_vector.Goals as goal

pub overflow_add-start-2 : goal.overflow_add-start-2
overflow_add-start-2 c = omega (arith, entries-inside c.args.region.now c.requires.well_formed c.args.c c.requires.c_bound c.requires.is_vector c.size-len.result c.size-len.ensures)

pub slice_bounds-find-end : goal.slice_bounds-find-end
slice_bounds-find-end c = omega (arith, entries-inside c.args.region.now c.requires.well_formed c.args.c c.requires.c_bound c.requires.is_vector c.size-len.result c.size-len.ensures)

pub close-requires : goal.close-requires
close-requires c =
    record {
      well_formed = c.requires.well_formed;
      c_bound = c.requires.c_bound;
      c_value = c.requires.is_vector;
      c_value_2 = sym c.size-len.ensures ∙ (omega arith);
    }

pub take-requires : goal.take-requires
take-requires c =
    record {
      well_formed = c.requires.well_formed;
      c_bound = c.requires.c_bound;
      c_value = c.requires.is_vector;
      bound = several c.args.region.now c.requires.well_formed c.args.c c.requires.c_bound c.requires.is_vector _ c.size-len.result refl c.size-len.ensures c.args.s c.find.result c.find.ensures c.in-Some.is (omega arith);
      i_bound = place_inside c.args.region.now c.requires.well_formed c.args.c c.requires.c_bound c.requires.is_vector _ c.size-len.result refl c.size-len.ensures c.args.s c.find.result c.find.ensures c.in-Some.is;
    }

pub returns-then-len-eq1 : goal.returns-then-len-eq1
returns-then-len-eq1 c = closed-left c.args.region.now c.requires.well_formed c.args.c c.requires.c_bound c.requires.is_vector _ c.size-len.result refl c.size-len.ensures c.args.s c.find.result c.find.ensures c.in-Some.is (omega arith) c.close.ensures

pub returns-else-len-eq1 : goal.returns-else-len-eq1
returns-else-len-eq1 c = took-left c.args.region.now c.requires.well_formed c.args.c c.requires.c_bound c.requires.is_vector _ c.size-len.result refl c.size-len.ensures c.args.s c.find.result c.find.ensures c.in-Some.is (omega arith) c.take.ensures

pub returns-in_default : goal.returns-in_default
returns-in_default c = (nothing-there c.args.region.now c.requires.well_formed c.args.c c.requires.c_bound c.requires.is_vector _ c.size-len.result refl c.size-len.ensures c.args.s c.find.result c.find.ensures c.in_default.is, refl)
