-- Each turn adds one slot more, at most 2^40 each. Assumes nothing.
use mathlib.Core.List.{[]}
use Rattle.inspect_slots.specs.Slots.{slot_seen}
use Rattle.inspect_slots.proofs.Lengths.{Added}
use Rattle.inspect_slots.proofs.sizes.sizes.Given as goal

abbrev pub invariant-loop-c : goal.invariant-loop-c
invariant-loop-c l = Added (slot_seen [] [] [] l.records) l.c l.total
