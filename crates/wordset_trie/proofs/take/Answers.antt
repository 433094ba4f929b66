-- The arena is lent and given back; after a suffix is gone the length, the nodes in use and the member count are stored. Assumes nothing.
use native.Mathlib.Omega.{arith}
use Rattle.wordset_trie.proofs.Lent.{size-counted, asked-arena, asked-root, asked-suffix}
use Rattle.wordset_trie.proofs.Taking.{take-ready, take-gone, take_last, take-absent}
use Rattle.wordset_trie.proofs.take.Goals as goal

pub overflow_sub-fewer : goal.overflow_sub-fewer
overflow_sub-fewer c = omega (arith, c.requires.threshold_bound, size-counted c.args.region.now c.requires.well_formed c.args.c c.requires.c_bound c.requires.c_value)

pub remove-requires : goal.remove-requires
remove-requires c =
    record {
      arena = asked-arena c.args.region.now c.requires.well_formed c.args.c c.requires.c_bound c.requires.c_value c.shape-shape.ensures.slots c.shape-shape.ensures.levels;
      root = asked-root c.args.region.now c.requires.well_formed c.args.c c.requires.c_bound c.requires.c_value c.shape-shape.ensures.slots c.shape-shape.ensures.levels c.link-root.ensures;
      suffix_bound = asked-suffix c.args.region.now c.requires.well_formed c.args.c c.requires.c_bound c.requires.c_value c.shape-shape.ensures.slots c.shape-shape.ensures.levels c.requires.s_bound;
    }

pub settle-requires : goal.settle-requires
settle-requires c =
    record {
      ready = (take-ready c.args.region.now c.requires.well_formed c.args.c c.requires.c_bound c.requires.c_value c.link-root.result c.args.s c.remove.result c.remove.new.arena c.link-root.ensures _ _ c.shape-shape.ensures.slots c.shape-shape.ensures.levels c.remove.ensures c.in-Gone.is).0;
      c_bound = (take-ready c.args.region.now c.requires.well_formed c.args.c c.requires.c_bound c.requires.c_value c.link-root.result c.args.s c.remove.result c.remove.new.arena c.link-root.ensures _ _ c.shape-shape.ensures.slots c.shape-shape.ensures.levels c.remove.ensures c.in-Gone.is).1;
    }

pub returns-in-Gone : goal.returns-in-Gone
returns-in-Gone c = take-gone c.args.region.now c.requires.well_formed c.args.c c.requires.c_bound c.requires.c_value c.link-root.result c.args.s c.remove.result c.remove.new.arena c.link-root.ensures _ _ c.shape-shape.ensures.slots c.shape-shape.ensures.levels c.remove.ensures c.in-Gone.is c.requires.threshold_bound c.settle.ensures (omega (arith, c.size-len.ensures, c.requires.threshold_bound)) (omega (arith, c.requires.threshold_bound, size-counted c.args.region.now c.requires.well_formed c.args.c c.requires.c_bound c.requires.c_value))

pub returns-in-Last : goal.returns-in-Last
returns-in-Last c = absurd (take_last c.args.region.now c.requires.well_formed c.args.c c.requires.c_bound c.requires.c_value c.link-root.result c.args.s c.remove.result c.remove.new.arena c.link-root.ensures _ _ c.shape-shape.ensures.slots c.shape-shape.ensures.levels c.remove.ensures c.requires.threshold_bound c.in-Last.is)

pub returns-in-Absent : goal.returns-in-Absent
returns-in-Absent c = take-absent c.args.region.now c.requires.well_formed c.args.c c.requires.c_bound c.requires.c_value c.link-root.result c.args.s c.remove.result c.remove.new.arena c.link-root.ensures _ _ c.shape-shape.ensures.slots c.shape-shape.ensures.levels c.remove.ensures c.in-Absent.is
