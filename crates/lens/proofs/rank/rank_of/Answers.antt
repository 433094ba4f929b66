-- The rank lies between low and high, and the prefix in the middle says in which half. Assumes nothing.
use Rattle.std.proofs.Common.{◌+◌, ◌-◌, ◌/◌, arith}
use Rattle.lens.proofs.Ranks.{k-small, place-small, slot_small, search-up, search-down}
use Rattle.lens.proofs.rank.rank_of.Goals as goal

pub overflow_add-middle : goal.overflow_add-middle
overflow_add-middle c = omega (arith, c.loop-low.invariant.in_use, k-small c.requires.well_formed)

pub slot-c-requires : goal.slot-c-requires
slot-c-requires c =
    record {
      ready = c.requires.well_formed.ready;
      i_bound = place-small c.requires.well_formed (c.loop-low.low + (c.loop-low.high - c.loop-low.low) / 2) (omega arith);
    }

pub prefix-requires : goal.prefix-requires
prefix-requires c =
    record {
      ready = c.requires.well_formed.ready;
      c_bound = rw c.slot-c.ensures (slot_small c.requires.well_formed (c.loop-low.low + (c.loop-low.high - c.loop-low.low) / 2) (omega arith));
    }

pub overflow_add-low : goal.overflow_add-low
overflow_add-low c = omega (arith, c.loop-low.invariant.in_use, k-small c.requires.well_formed)

pub loop-low-preserved-then-prefix-p : goal.loop-low-preserved-then-prefix-p
loop-low-preserved-then-prefix-p c = search-up c.requires.well_formed c.loop-low.invariant (c.loop-low.low + (c.loop-low.high - c.loop-low.low) / 2) (omega arith) c.slot-c.ensures c.prefix.ensures c.if-prefix-p.true

pub loop-low-preserved : goal.loop-low-preserved
loop-low-preserved c = search-down c.requires.well_formed c.loop-low.invariant (c.loop-low.low + (c.loop-low.high - c.loop-low.low) / 2) (omega arith) c.slot-c.ensures c.prefix.ensures c.if-prefix-p.false
