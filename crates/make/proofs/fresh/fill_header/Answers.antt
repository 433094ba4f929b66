-- `fill_header` meets its contract: the sixteen words are the header's. Assumes nothing.
use Rattle.std.proofs.Common.{◌∙◌}
use Rattle.make.proofs.Image.{header_is}
use Rattle.make.proofs.fresh.fill_header.Goals as goal

pub returns : goal.returns
returns c = c.copy_from_slice.ensures.after ∙ header_is c.args.g c.requires.1
