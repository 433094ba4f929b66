-- A place is held below k where it is looked at. Assumes nothing.
use Rattle.std.proofs.Common.{arith}
use Rattle.lens.proofs.Ranks.{place-small, slot_small}
use Rattle.lens.proofs.hints.look.Goals as goal

pub slot-requires : goal.slot-requires
slot-requires c =
    record {
      ready = c.requires.well_formed.ready;
      i_bound = place-small c.requires.well_formed c.clamped-m.result (omega (arith, c.clamped-m.ensures, c.requires.k_value));
    }

pub prefix-q-requires : goal.prefix-q-requires
prefix-q-requires c =
    record {
      ready = c.requires.well_formed.ready;
      c_bound = rw c.slot.ensures (slot_small c.requires.well_formed c.clamped-m.result (omega (arith, c.clamped-m.ensures, c.requires.k_value)));
    }
