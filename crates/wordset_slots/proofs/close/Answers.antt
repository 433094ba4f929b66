-- Closing a container: each write keeps the region ready for the next, and together they are the step. Assumes nothing.
use Prim.Native.Nat.{◌^◌, ◌≤◌}
use mathlib.Core.Path.{sym, ap, subst}
use native.Mathlib.Omega.{arith}
use Rattle.region.specs.Areas.{Numbers, numbers}
use Rattle.wordset_slots.proofs.Counting.{k-upto, count-some}
use Rattle.wordset_slots.proofs.Writing.{then-ranks}
use Rattle.wordset_slots.proofs.Closings.{prefix-small, rank_below, some-in-use, place-small, close-run}
use Rattle.wordset_slots.proofs.close.Goals as goal

pub rank_of-at-requires : goal.rank_of-at-requires
rank_of-at-requires c =
    record {
      well_formed = c.requires.well_formed;
      p_bound = prefix-small c.requires.well_formed c.args.c c.prefix-p.result c.requires.c_bound c.requires.c_value c.prefix-p.ensures;
    }

pub overflow_sub-slots : goal.overflow_sub-slots
overflow_sub-slots c = omega (arith, c.k-k.ensures, c.c-slots.ensures, k-upto c.args.region.now c.requires.well_formed)

pub release-requires : goal.release-requires
release-requires c =
    record {
      ready = c.requires.well_formed.ready;
      c_bound = c.requires.c_bound;
      i_bound = place-small c.requires.well_formed c.args.c c.prefix-p.result c.requires.c_bound c.requires.c_value c.prefix-p.ensures c.c-slots.result c.k-k.result c.c-slots.ensures c.k-k.ensures;
    }

pub ranks_down-requires : goal.ranks_down-requires
ranks_down-requires c =
    let room : c.k-k.result ≤ (numbers c.args.region.now).C = omega (arith, c.k-k.ensures, k-upto c.args.region.now c.requires.well_formed) in
    record {
      ready = c.release.ensures.ready;
      at_lt_k = rank_below c.requires.well_formed c.args.c c.prefix-p.result c.requires.c_bound c.requires.c_value c.prefix-p.ensures c.rank_of-at.result c.k-k.result c.rank_of-at.ensures c.k-k.ensures;
      k_bound = subst (λ (n : Numbers). c.k-k.result ≤ n.C) (sym c.release.ensures.numbers-are) room;
    }

pub unmark-requires : goal.unmark-requires
unmark-requires c =
    let h = then-ranks c.release.ensures c.ranks_down.ensures in
    record {
      ready = h.ready;
      p_bound = omega (arith, ap (λ (n : Numbers). 2 ^ n.P) h.numbers-are, prefix-small c.requires.well_formed c.args.c c.prefix-p.result c.requires.c_bound c.requires.c_value c.prefix-p.ensures);
    }

pub overflow_sub-k : goal.overflow_sub-k
overflow_sub-k c = omega (arith, c.k-k.ensures, some-in-use c.requires.well_formed c.args.c c.prefix-p.result c.requires.c_bound c.requires.c_value c.prefix-p.ensures)

pub overflow_sub-count : goal.overflow_sub-count
overflow_sub-count c = omega (arith, c.count-count.ensures, count-some c.args.region.now c.requires.well_formed (some-in-use c.requires.well_formed c.args.c c.prefix-p.result c.requires.c_bound c.requires.c_value c.prefix-p.ensures))

pub returns : goal.returns
returns c =
    close-run c.requires.well_formed c.args.c c.prefix-p.result c.requires.c_bound c.requires.c_value c.prefix-p.ensures c.c-slots.result c.k-k.result c.count-count.result c.rank_of-at.result
    c.c-slots.ensures c.k-k.ensures c.count-count.ensures c.rank_of-at.ensures c.requires.c_value_2
    c.release.ensures c.ranks_down.ensures c.unmark.ensures c.counts.ensures
