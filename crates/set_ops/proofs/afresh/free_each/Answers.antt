-- `free_each` meets its contract: before round i the first i nodes are free, each linked to its place. Assumes nothing.
use Rattle.std.proofs.Common.{◌+◌, ◌-◌, ◌*◌, set, refl, ◌∙◌, arith, length-set}
use Rattle.set_ops.proofs.AfreshNodes.{level-more, place-more}
use Rattle.set_ops.proofs.afresh.free_each.Goals as goal

pub loop-i-init : goal.loop-i-init
loop-i-init c = (omega arith, c.requires, λ j l. absurd (omega arith), λ j l. absurd (omega arith))

pub bounds-s-i-in-loop-i : goal.bounds-s-i-in-loop-i
bounds-s-i-in-loop-i c = simp length-set (omega arith)

pub loop-i-preserved : goal.loop-i-preserved
loop-i-preserved c =
    let loop = c.loop-i in
    let n = c.args.n in
    let i = loop.i in (
      omega arith,
      length-set (set loop.s (i * 264 + 4) 0) (i * 264 + 5) (n - 1 - i) ∙ length-set loop.s (i * 264 + 4) 0 ∙ loop.invariant.1,
      level-more loop.s n i (n - 1 - i) loop.invariant.1 (omega arith) loop.invariant.2,
      place-more loop.s n i (n - 1 - i) loop.invariant.1 (omega arith) refl loop.invariant.3,
    )

pub returns : goal.returns
returns c =
    record {
      levels = λ j l. c.loop-i.invariant.2 j (omega arith);
      places = λ j l. c.loop-i.invariant.3 j (omega arith);
    }
