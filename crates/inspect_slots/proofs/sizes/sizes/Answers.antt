-- Each turn adds one slot more, at most 2^40 each. Assumes nothing.
use Rattle.std.proofs.Common.{◌≡◌, ◌^◌, ◌≤◌, [], ap, ◌∙◌, arith}
use Rattle.lists.specs.Sums.{sum}
use Rattle.inspect_slots.specs.Slots.{slot_seen, stored}
use Rattle.inspect_slots.proofs.Lengths.{added-start, added_next, stored-le}
use Rattle.inspect_slots.proofs.sizes.sizes.Goals as goal
use Rattle.inspect_slots.proofs.sizes.sizes.Goals.{In-loop-c}

small : (c : In-loop-c) → stored (slot_seen [] [] [] c.args.records.now) c.loop-c.c ≤ 2 ^ 40
small c = stored-le (slot_seen [] [] [] c.args.records.now) c.loop-c.c (2 ^ 40) (c.requires.by_index c.loop-c.c c.loop-c-test.true)

pub loop-c-init : goal.loop-c-init
loop-c-init c = added-start _

pub overflow_add-total : goal.overflow_add-total
overflow_add-total c = omega (arith, small (goal.at.overflow_add-total c).In-loop-c, c.size_if_used-total.ensures, c.loop-c.invariant.few)

pub loop-c-preserved : goal.loop-c-preserved
loop-c-preserved c = added_next _ c.loop-c.invariant _ c.size_if_used-total.ensures (omega (arith, small (goal.at.loop-c-preserved c).In-loop-c, c.size_if_used-total.ensures))

pub returns : goal.returns
returns c =
    let e : c.loop-c.c ≡ c.args.slots = omega arith in
    c.loop-c.invariant.all ∙ ap (sum (stored (slot_seen [] [] [] c.args.records.now))) e
