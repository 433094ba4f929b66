-- The strip is lent and given back, the length and the member count are stored: an entry less. Entries differ, so none stands before its place. Assumes nothing.
use native.Mathlib.Omega.{arith}
use Rattle.wordset_vector.proofs.Strips.{strip-ready, size-counted, given-ready, took}
use Rattle.wordset_vector.proofs.take.Goals as goal

pub overflow_sub-fewer : goal.overflow_sub-fewer
overflow_sub-fewer c = omega (arith, c.count-count.ensures, size-counted c.args.region.now c.requires.well_formed c.args.c c.requires.c_bound c.requires.c_value)

pub remove_at-requires : goal.remove_at-requires
remove_at-requires c =
    let r = strip-ready c.args.region.now c.requires.well_formed c.args.c c.requires.c_bound c.requires.c_value c.args.i c.size-len.result c.requires.i_bound c.size-len.ensures in
    record { i_lt_len = r.0; strip_value = r.1 }

pub settle-requires : goal.settle-requires
settle-requires c =
    let r = given-ready c.args.region.now c.requires.well_formed c.args.c c.requires.c_bound c.remove_at.new.strip c.remove_at.ensures.long in
    record { ready = r.0; c_bound = r.1 }

pub returns : goal.returns
returns c =
    took c.args.region.now c.requires.well_formed c.args.c c.requires.c_bound c.requires.c_value c.requires.bound c.requires.i_bound
    c.remove_at.ensures c.size-len.ensures c.settle.ensures (omega (arith, c.size-len.ensures, c.requires.bound))
    (omega (arith, c.count-count.ensures, c.requires.bound, size-counted c.args.region.now c.requires.well_formed c.args.c c.requires.c_bound c.requires.c_value))
