-- Opening a container: each write keeps the region ready for the next, and together they are the step. Assumes nothing.
use Prim.Native.Nat.{◌^◌, ◌<◌}
use mathlib.Core.Path.{sym, subst}
use native.Mathlib.Omega.{arith}
use Rattle.region.specs.Areas.{Numbers, numbers}
use Rattle.lens.proofs.Ranks.{search-start}
use Rattle.wordset_slots.proofs.Counting.{few-slots, count_fits}
use Rattle.wordset_slots.proofs.Writing.{then-ranks}
use Rattle.wordset_slots.proofs.Openings.{top_small, open-run}
use Rattle.wordset_slots.proofs.open.Goals as goal

pub fill-requires : goal.fill-requires
fill-requires c =
    record {
      ready = c.requires.well_formed.ready;
      c_bound = top_small c.requires.well_formed c.c-slots.result c.k-k.result c.free-c.result c.c-slots.ensures c.k-k.ensures c.requires.region_bound c.free-c.ensures;
    }

pub ranks_up-requires : goal.ranks_up-requires
ranks_up-requires c =
    let top = (search-start c.requires.well_formed c.args.p c.k-k.result c.requires.p_bound c.k-k.ensures).upto in
    let room : c.k-k.result < (numbers c.args.region.now).C = omega (arith, c.k-k.ensures, c.requires.region_bound) in
    record {
      ready = c.fill.ensures.ready;
      at_le_k = omega (arith, c.rank_of-at.ensures, top);
      k_bound = subst (λ (n : Numbers). c.k-k.result < n.C) (sym c.fill.ensures.numbers-are) room;
    }

pub mark-requires : goal.mark-requires
mark-requires c =
    let h = then-ranks c.fill.ensures c.ranks_up.ensures in
    record {
      ready = h.ready;
      p_bound = subst (λ (n : Numbers). c.args.p < 2 ^ n.P) (sym h.numbers-are) c.requires.p_bound;
    }

pub overflow_add-k-2 : goal.overflow_add-k-2
overflow_add-k-2 c = omega (arith, c.k-k.ensures, c.requires.region_bound, few-slots c.args.region.now c.requires.well_formed)

pub overflow_add-count : goal.overflow_add-count
overflow_add-count c = omega (arith, c.count-count.ensures, count_fits c.args.region.now c.requires.well_formed)

pub returns : goal.returns
returns c =
    open-run c.requires.well_formed c.args.p c.args.s c.c-slots.result c.k-k.result c.count-count.result c.rank_of-at.result c.free-c.result
    c.c-slots.ensures c.k-k.ensures c.count-count.ensures c.rank_of-at.ensures c.free-c.ensures c.requires.p_bound c.requires.p_value c.requires.region_bound c.requires.s_bound
    c.fill.ensures c.ranks_up.ensures c.mark.ensures c.counts.ensures
