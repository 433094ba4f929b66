-- `keys::layout::fields` meets its contract: a shift and a mask are a quotient and a rest. Assumes nothing.
use Rattle.keys.proofs.Keys.{masked}
use Rattle.keys.proofs.layout.fields.Goals as goal

pub returns : goal.returns
returns c = masked c.args.word
