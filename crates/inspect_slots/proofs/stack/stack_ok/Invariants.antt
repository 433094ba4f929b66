-- Each turn passes one slot more; as many free slots as places leave no place over. Assumes nothing.
use mathlib.Core.List.{[]}
use Rattle.inspect_slots.specs.Slots.{slot_numbers, slot_seen}
use Rattle.inspect_slots.proofs.Stacking.{Free}
use Rattle.inspect_slots.proofs.stack.stack_ok.Given as goal

abbrev pub invariant-loop-c : goal.invariant-loop-c
invariant-loop-c l = Free (slot_numbers 0 l.slots l.k) (slot_seen [] [] l.stack l.records) l.c l.n
