-- One more node, one more word. Assumes nothing.
use mathlib.Core.Path.{◌≡◌, ap, ◌∙◌}
use Prim.Native.Nat.{min}
use native.Mathlib.Omega.{arith}
use Rattle.region.specs.WellFormed.{nodes_used}
use Rattle.arena.specs.Arena.{nodes_in}
use Rattle.arena_check.proofs.Pass.{used-next, used-few, used-test}
use Rattle.arena_check.proofs.in_use.Goals as goal

pub loop-n-init : goal.loop-n-init
loop-n-init c = c.requires.taken_value

pub level1-level1-requires : goal.level1-level1-requires
level1-level1-requires c =
    record {
      arena_len = c.requires.arena_len;
      n_lt_slots = omega arith;
    }

pub overflow_add-all : goal.overflow_add-all
overflow_add-all c =
    let a = c.args in
    omega (arith, c.loop-n.invariant, used-few (nodes_in a.slots a.arena.now) c.loop-n.n, c.from-all.ensures, used-test c.level1-level1.result)

pub loop-n-preserved : goal.loop-n-preserved
loop-n-preserved c =
    let a = c.args in
    used-next (nodes_in a.slots a.arena.now) c.loop-n.n c.loop-n.all _ c.loop-n.invariant (c.from-all.ensures ∙ used-test c.level1-level1.result ∙ ap (min 1) c.level1-level1.ensures)

pub returns : goal.returns
returns c =
    let a = c.args in
    let e : c.loop-n.n ≡ a.end = omega arith in
    c.loop-n.invariant ∙ ap (nodes_used (nodes_in a.slots a.arena.now)) e
