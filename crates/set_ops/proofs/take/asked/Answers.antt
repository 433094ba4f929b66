-- Where all qualify, or the prefix is clear, a word of its own says. Assumes nothing.
use mathlib.Core.Bool.{false≢true}
use Rattle.std.proofs.Common.{sym, refl, ◌∙◌, eqb-true}
use Rattle.model.specs.Words.{joined}
use Rattle.model.specs.Reading.{has}
use Rattle.region.specs.Areas.{numbers}
use Rattle.region.specs.Read.{reading}
use Rattle.set_ops.specs.Poured.{takes_own, takes_shared}
use Rattle.set_ops.proofs.TakeLooks.{alike-own, clear-own}
use Rattle.set_ops.proofs.take.asked.Goals as goal

pub returns-in-All : goal.returns-in-All
returns-in-All c =
    let o = c.args.other.now in
    record {
      without = λ z s h. alike-own (has (reading o) (joined (numbers o).S c.args.p s)) (takes_shared c.args.wanted) (takes_own c.args.wanted) (rw c.in-All.is refl);
      with = λ z. absurd (false≢true z);
    }

pub returns-in-Shared : goal.returns-in-Shared
returns-in-Shared c =
    record {
      without = clear-own c.requires.well_formed c.args.p c.requires.p_bound (takes_shared c.args.wanted) (takes_own c.args.wanted) c.bit.result c.bit.ensures;
      with = λ z. eqb-true _ 1 (sym c.bit.ensures ∙ z);
    }
