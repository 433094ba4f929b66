-- The first rank and the last are in use. Assumes nothing.
use Rattle.std.proofs.Common.{arith}
use Rattle.lens.proofs.Ranks.{place-small, slot_small}
use Rattle.lens.proofs.hints.ends.Goals as goal

pub slot-requires : goal.slot-requires
slot-requires c =
    record {
      ready = c.requires.well_formed.ready;
      i_bound = place-small c.requires.well_formed 0 (omega (arith, c.requires.k_value, c.requires.k_nonzero));
    }

pub prefix-low-requires : goal.prefix-low-requires
prefix-low-requires c =
    record {
      ready = c.requires.well_formed.ready;
      c_bound = rw c.slot.ensures (slot_small c.requires.well_formed 0 (omega (arith, c.requires.k_value, c.requires.k_nonzero)));
    }

pub slot-requires-2 : goal.slot-requires-2
slot-requires-2 c =
    record {
      ready = c.requires.well_formed.ready;
      i_bound = place-small c.requires.well_formed _ (omega (arith, c.requires.k_value, c.requires.k_nonzero));
    }

pub prefix-high-requires : goal.prefix-high-requires
prefix-high-requires c =
    record {
      ready = c.requires.well_formed.ready;
      c_bound = rw c.slot-2.ensures (slot_small c.requires.well_formed _ (omega (arith, c.requires.k_value, c.requires.k_nonzero)));
    }
