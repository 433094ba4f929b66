-- Each command by what its step says. Assumes nothing.
use mathlib.Core.Path.{sym}
use Rattle.wordset_list.proofs.Answering.{looked-up, removed}
use Rattle.wordset_list.proofs.commands.perform.Goals as goal

pub returns-in-Lookup : goal.returns-in-Lookup
returns-in-Lookup c = looked-up c.args.code c.args.w c.from.result c.args.region.now c.contains.result (sym c.in-Lookup.ensures) c.requires.well_formed c.contains.ensures c.from.ensures

pub returns-in-Remove : goal.returns-in-Remove
returns-in-Remove c = removed c.args.code c.args.w c.from-in-Remove.result c.args.region.now c.remove.new.region c.remove.result (sym c.in-Remove.ensures) c.remove.ensures c.from-in-Remove.ensures
