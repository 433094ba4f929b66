-- Below `end` a byte may be set; from there on up to 256 none is. Assumes nothing.
use native.Mathlib.Omega.{arith}
use Rattle.inspect_tries.proofs.bytes_below.Goals as goal

pub returns-clause-yes : goal.returns-clause-yes
returns-clause-yes c = λ _ x l e. c.loop-x.invariant x (omega (arith, c.loop-x-test.false)) l e
