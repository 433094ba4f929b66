-- Each node is tallied once. Assumes nothing.
use mathlib.Core.Path.{ap, ◌∙◌}
use Prim.Native.Nat.{ℕ}
use native.Mathlib.Omega.{arith}
use lib.Dec.{eqb}
use Rattle.lists.specs.Lists.{one}
use Rattle.arena.specs.Arena.{nodes_in}
use Rattle.arena_check.proofs.Maps.{bits_of}
use Rattle.arena_check.proofs.Pass.{tally-next, tally-to, roots_few, bits-few, lasts-few, branch-few, last-few, root-few, one-test}
use Rattle.arena_check.proofs.own_all.Goals as goal

pub loop-n-init : goal.loop-n-init
loop-n-init c = c.requires.tallied

pub level1-level1-requires : goal.level1-level1-requires
level1-level1-requires c =
    record {
      arena_len = c.requires.arena_len;
      n_lt_slots = omega arith;
    }

pub own_ok-requires : goal.own_ok-requires
own_ok-requires c =
    record {
      arena_len = c.requires.arena_len;
      free_le_slots = (c.requires.free_le_slots.0, omega arith, c.requires.free_le_slots.1);
      level1_value = c.level1-level1.ensures;
    }

pub returns-then-not-own_ok : goal.returns-then-not-own_ok
returns-then-not-own_ok c =
    λ all. c.own_ok.ensures.no c.if-not-own_ok.true (all c.loop-n.n (omega arith))

pub overflow_add-roots : goal.overflow_add-roots
overflow_add-roots c = omega (arith, roots_few _ _ _ _ _ c.loop-n.invariant, root-few c.level1-level1.result, c.from-roots.ensures, one-test (eqb c.level1-level1.result 1))

pub branches-bits-requires : goal.branches-bits-requires
branches-bits-requires c =
    record {
      arena_len = c.requires.arena_len;
      n_lt_slots = omega arith;
      level1_value = c.level1-level1.ensures;
    }

pub overflow_add-bits : goal.overflow_add-bits
overflow_add-bits c =
    let a = c.args in
    let h = bits_of a.slots a.arena.now in
    omega (arith, bits-few _ _ _ _ _ c.loop-n.invariant h, branch-few (nodes_in a.slots a.arena.now) a.b h c.loop-n.n, c.branches-bits.ensures)

pub at_last-last-requires : goal.at_last-last-requires
at_last-last-requires c =
    record {
      arena_len = c.requires.arena_len;
      n_lt_slots = omega arith;
      level1_value = c.level1-level1.ensures;
    }

pub overflow_add-last : goal.overflow_add-last
overflow_add-last c =
    let a = c.args in
    let h = bits_of a.slots a.arena.now in
    omega (arith, lasts-few _ _ _ _ _ c.loop-n.invariant h, last-few (nodes_in a.slots a.arena.now) a.b h c.loop-n.n, c.at_last-last.ensures)

pub loop-n-preserved : goal.loop-n-preserved
loop-n-preserved c =
    tally-next _ _ _ _ _ c.loop-n.invariant _ c.branches-bits.result c.at_last-last.result
    (c.own_ok.ensures.yes c.if-not-own_ok.false)
    (c.from-roots.ensures ∙ one-test _ ∙ ap (λ (d : ℕ). one (eqb d 1)) c.level1-level1.ensures) c.branches-bits.ensures c.at_last-last.ensures

pub returns : goal.returns
returns c =
    tally-to _ _ _ _ _ c.loop-n.invariant c.args.end (omega arith)
