-- The strip is lent and given back, the length and the member count are stored: an entry more. Assumes nothing.
use native.Mathlib.Omega.{arith}
use Rattle.wordset_vector.proofs.Counting.{count_small}
use Rattle.wordset_vector.proofs.Strips.{given-ready, pushed}
use Rattle.wordset_vector.proofs.push.Goals as goal

pub overflow_add-more : goal.overflow_add-more
overflow_add-more c = omega (arith, c.count-count.ensures, count_small c.args.region.now c.requires.well_formed)

pub settle-requires : goal.settle-requires
settle-requires c =
    let r = given-ready c.args.region.now c.requires.well_formed c.args.c c.requires.c_bound c.append.new.strip c.append.ensures.long in
    record { ready = r.0; c_bound = r.1 }

pub returns : goal.returns
returns c =
    pushed c.args.region.now c.requires.well_formed c.args.c c.requires.c_bound c.requires.c_value c.requires.c_bound_2 c.requires.s_bound c.requires.c_value_2
    c.append.ensures c.size-len.ensures c.settle.ensures (omega (arith, c.size-len.ensures)) (omega (arith, c.count-count.ensures))
