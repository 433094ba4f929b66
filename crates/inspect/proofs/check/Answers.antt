-- The two answers. Assumes nothing.
use mathlib.Core.Path.{refl}
use Rattle.inspect.proofs.check.Goals as goal

pub returns-then-not-well_formed : goal.returns-then-not-well_formed
returns-then-not-well_formed c = record { sound = no (c.well_formed-2.ensures.no c.if-not-well_formed.true); tells = refl }

pub returns : goal.returns
returns c = record { sound = yes (c.well_formed-2.ensures.yes c.if-not-well_formed.false); tells = refl }
