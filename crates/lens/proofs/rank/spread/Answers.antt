-- The rank stays between low and high, whatever place is looked at. Assumes nothing.
use Rattle.std.proofs.Common.{◌<◌, arith}
use Rattle.lens.proofs.Ranks.{place-small, slot_small, search-start, search-up, search-down, search-hit}
use Rattle.lens.proofs.rank.spread.Goals as goal
use Rattle.lens.proofs.rank.spread.Goals.{then-q-p-2, else-q-p-2}

pub loop-looks-init : goal.loop-looks-init
loop-looks-init c = search-start c.requires.well_formed c.args.p c.args.k c.requires.p_bound c.requires.k_value

pub slot-requires : goal.slot-requires
slot-requires c =
    record {
      ready = c.requires.well_formed.ready;
      i_bound = place-small c.requires.well_formed c.clamp-m.result (omega (arith, c.clamp-m.ensures, c.loop-looks.invariant.in_use));
    }

pub prefix-q-requires : goal.prefix-q-requires
prefix-q-requires c =
    record {
      ready = c.requires.well_formed.ready;
      c_bound = rw c.slot.ensures (slot_small c.requires.well_formed c.clamp-m.result (omega (arith, c.clamp-m.ensures, c.loop-looks.invariant.in_use)));
    }

pub returns-then-q-p : goal.returns-then-q-p
returns-then-q-p c = search-hit c.requires.well_formed c.loop-looks.invariant c.clamp-m.result (omega (arith, c.clamp-m.ensures)) c.slot.ensures c.prefix-q.ensures c.if-q-p.true

pub loop-looks-preserved : goal.loop-looks-preserved
loop-looks-preserved c =
    let m : c.clamp-m.result < c.loop-looks.high = omega (arith, c.clamp-m.ensures) in
    elim c.if-q-p-2.branch [
      | then-q-p-2 w ↦ rw (w.low-is, w.high-is) (search-up c.requires.well_formed c.loop-looks.invariant c.clamp-m.result m c.slot.ensures c.prefix-q.ensures w.if-q-p-2.true)
      | else-q-p-2 w ↦ rw (w.low-is, w.high-is) (search-down c.requires.well_formed c.loop-looks.invariant c.clamp-m.result m c.slot.ensures c.prefix-q.ensures w.if-q-p-2.false)
    ]
