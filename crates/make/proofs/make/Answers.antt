-- `make` meets its promise: each answer is given under the tests that the promise asks it for. Assumes nothing.
use mathlib.Core.Path.{◌≡◌, sym, ◌∙◌}
use mathlib.Core.Bool.{true}
use Rattle.region.specs.Ranges.{good_numbers}
use Rattle.make.proofs.Cases.{out_of_range, too_short, image}
use Rattle.make.proofs.make.Goals as goal

pub returns-then-not-good_numbers : goal.returns-then-not-good_numbers
returns-then-not-good_numbers c = out_of_range _ _ _ _ _ (sym c.good_numbers.ensures ∙ c.if-not-good_numbers.true)

pub new-g-requires : goal.new-g-requires
new-g-requires c =
    let good : good_numbers c.args.p c.args.s c.args.c c.args.n ≡ true =
    sym c.good_numbers.ensures ∙ c.if-not-good_numbers.false in
    good

pub returns-then-region-g : goal.returns-then-region-g
returns-then-region-g c =
    let good : good_numbers c.args.p c.args.s c.args.c c.args.n ≡ true =
    sym c.good_numbers.ensures ∙ c.if-not-good_numbers.false in
    too_short c.new-g.ensures _ good c.if-region-g.true

pub fresh_into-requires : goal.fresh_into-requires
fresh_into-requires c = (c.new-g.ensures.laid, c.if-region-g.false)

pub returns : goal.returns
returns c =
    let good : good_numbers c.args.p c.args.s c.args.c c.args.n ≡ true =
    sym c.good_numbers.ensures ∙ c.if-not-good_numbers.false in
    image c.new-g.ensures _ _ good c.if-region-g.false c.fresh_into.ensures
