-- What a look met is p's container; else p's bit says whether it has a rank. Assumes nothing.
use Rattle.std.proofs.Common.{sym, ◌∙◌, eqb-true}
use Rattle.lens.proofs.Found.{nowhere}
use Rattle.lens.proofs.find.find.Goals as goal

pub returns-then-not-bit : goal.returns-then-not-bit
returns-then-not-bit c = nowhere c.args.region.now c.requires.well_formed c.args.p c.bit.result c.bit.ensures c.if-not-bit.true

pub slot_of-requires : goal.slot_of-requires
slot_of-requires c =
    record {
      well_formed = c.requires.well_formed;
      p_bound = c.requires.p_bound;
      p_value = eqb-true _ 1 (sym c.bit.ensures ∙ c.if-not-bit.false);
    }

pub returns : goal.returns
returns c = (eqb-true _ 1 (sym c.bit.ensures ∙ c.if-not-bit.false), c.slot_of.ensures)
