-- The strip is lent and given back, the length and the member count are stored: some entries more. Assumes nothing.
use native.Mathlib.Omega.{arith}
use lib.ListN.{length}
use Rattle.wordset_vector.proofs.Counting.{count_small}
use Rattle.wordset_vector.proofs.Strips.{given-ready, gather-ready, pushed-all}
use Rattle.wordset_vector.proofs.push_all.Goals as goal

pub gather-n-requires : goal.gather-n-requires
gather-n-requires c = gather-ready c.args.region.now c.requires.well_formed c.args.c c.requires.c_bound c.requires.c_value c.size-len.result (length c.args.suffixes.now) c.size-len.ensures c.requires.suffixes_bound

pub overflow_sub-n : goal.overflow_sub-n
overflow_sub-n c = c.gather-n.ensures.more

pub overflow_add-count : goal.overflow_add-count
overflow_add-count c = omega (arith, c.count-count.ensures, c.gather-n.ensures.few, c.size-len.ensures, c.requires.suffixes_bound, count_small c.args.region.now c.requires.well_formed)

pub settle-requires : goal.settle-requires
settle-requires c =
    let r = given-ready c.args.region.now c.requires.well_formed c.args.c c.requires.c_bound c.gather-n.new.strip c.gather-n.ensures.long in
    record { ready = r.0; c_bound = r.1 }

pub returns : goal.returns
returns c =
    pushed-all c.args.region.now c.requires.well_formed c.args.c c.requires.c_bound c.requires.c_value c.requires.suffixes_bound c.requires.by_index
    c.gather-n.ensures c.size-len.ensures c.settle.ensures (omega (arith, c.count-count.ensures))
