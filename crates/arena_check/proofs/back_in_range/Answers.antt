-- The parent's number and the byte are each held to their end. Assumes nothing.
use native.Mathlib.Omega.{arith}
use borrow.Author.Tests.{ltb-true}
use Rattle.arena_check.proofs.back_in_range.Goals as goal

pub returns-then-parent-slots-clause-yes : goal.returns-then-parent-slots-clause-yes
returns-then-parent-slots-clause-yes c = λ e k. (omega (arith, c.parent.ensures), omega (arith, c.byte.ensures, ltb-true c.byte.result 256 e))
