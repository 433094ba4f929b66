-- A rank that is looked at is below k, so its slot is one of the region's. Assumes nothing.
use Rattle.std.proofs.Common.{arith}
use Rattle.lens.proofs.Ranks.{place-small, slot_small}
use Rattle.lens.proofs.Found.{at-hint}
use Rattle.lens.proofs.find.meet.Goals as goal

pub slot-c-requires : goal.slot-c-requires
slot-c-requires c =
    record {
      ready = c.requires.ready;
      i_bound = place-small c.requires c.args.m (omega (arith, c.k.ensures, c.if-m-k.false));
    }

pub prefix-requires : goal.prefix-requires
prefix-requires c =
    record {
      ready = c.requires.ready;
      c_bound = rw c.slot-c.ensures (slot_small c.requires c.args.m (omega (arith, c.k.ensures, c.if-m-k.false)));
    }

pub kind-requires : goal.kind-requires
kind-requires c =
    record {
      ready = c.requires.ready;
      c_bound = rw c.slot-c.ensures (slot_small c.requires c.args.m (omega (arith, c.k.ensures, c.if-m-k.false)));
    }

pub returns-then-kind-ne0 : goal.returns-then-kind-ne0
returns-then-kind-ne0 c =
    at-hint c.args.region.now c.requires c.args.p c.slot-c.result c.prefix.result c.kind.result
    (rw c.slot-c.ensures (slot_small c.requires c.args.m (omega (arith, c.k.ensures, c.if-m-k.false))))
    c.prefix.ensures c.kind.ensures (omega (arith, c.if-prefix-p.true)) (λ z. omega (arith, c.if-kind-ne0.true))
