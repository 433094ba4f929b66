-- The first entries of the strip are the suffixes. Assumes nothing.
use mathlib.Core.Path.{refl, ap, ◌∙◌}
use native.Mathlib.Omega.{arith}
use Rattle.lists.specs.Lists.{mem}
use Rattle.wordset_lookup.proofs.Looks.{entries-inside, vector-part}
use Rattle.wordset_lookup.proofs.in_vector.Goals as goal

pub overflow_add-start-2 : goal.overflow_add-start-2
overflow_add-start-2 c = omega (arith, entries-inside c.args.region.now c.requires.well_formed c.args.c c.requires.c_bound c.requires.is_vector c.size-len.result c.size-len.ensures)

pub slice_bounds-contains-end : goal.slice_bounds-contains-end
slice_bounds-contains-end c = omega (arith, entries-inside c.args.region.now c.requires.well_formed c.args.c c.requires.c_bound c.requires.is_vector c.size-len.result c.size-len.ensures)

pub returns : goal.returns
returns c = c.contains.ensures ∙ ap (mem c.args.s) (vector-part c.args.region.now c.requires.well_formed c.args.c c.requires.c_bound c.requires.is_vector _ c.size-len.result refl c.size-len.ensures)
