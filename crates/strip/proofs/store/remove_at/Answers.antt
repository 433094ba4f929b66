-- One store, of the last entry. Assumes nothing.
use Rattle.strip.proofs.StoreLaws.{remove-store}
use Rattle.std.proofs.Common.{arith}
use Rattle.strip.proofs.store.remove_at.Goals as goal

pub returns : goal.returns
returns c = let a = c.args in remove-store a.strip.now a.len a.i (omega arith) (omega arith) c.requires.strip_value
