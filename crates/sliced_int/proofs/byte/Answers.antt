-- `sliced_int::byte` meets its contract: a shift and a mask are a quotient and a rest. Assumes nothing.
use Rattle.sliced_int.proofs.Laws.{is_byte}
use Rattle.sliced_int.proofs.byte.Goals as goal

pub returns : goal.returns
returns c = is_byte c.args.s c.args.b c.args.j c.requires.0
