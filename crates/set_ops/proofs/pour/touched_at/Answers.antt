-- A rank in use has a slot. Assumes nothing.
use Rattle.std.proofs.Common.{arith}
use Rattle.lens.proofs.Ranks.{place-small, slot_small}
use Rattle.set_ops.proofs.pour.touched_at.Goals as goal

pub slot-requires : goal.slot-requires
slot-requires c =
    record {
      ready = c.requires.ready;
      i_bound = place-small c.requires c.args.r (omega (arith, c.k.ensures, c.if-r-k.true));
    }

pub touched-requires : goal.touched-requires
touched-requires c =
    record {
      ready = c.requires.ready;
      c_bound = rw c.slot.ensures (slot_small c.requires c.args.r (omega (arith, c.k.ensures, c.if-r-k.true)));
    }
