-- The stack is read at the node's own place, once that is in range. Assumes nothing.
use native.Mathlib.Omega.{arith}
use Rattle.arena_check.proofs.stacked.Goals as goal

pub spare-requires-clause-i_lt_slots : goal.spare-requires-clause-i_lt_slots
spare-requires-clause-i_lt_slots c = omega arith
