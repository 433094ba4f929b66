-- There is room for all, or nothing is changed. Assumes nothing.
use mathlib.Core.Path.{refl}
use Prim.Native.Nat.{◌+◌, ◌≤◌}
use native.Mathlib.Omega.{arith}
use Rattle.model.specs.Room.{trie_nodes}
use Rattle.arena.proofs.Stacks.{arena-stack, used-fits}
use Rattle.trie_pour.proofs.Sowing.{some-nodes, too_many, fit, left_over, planted-then}
use Rattle.trie_pour.proofs.plant.Goals as goal

pub overflow_sub-slots : goal.overflow_sub-slots
overflow_sub-slots c = omega (arith, used-fits (arena-stack c.requires.arena))

pub returns-then-not-fits : goal.returns-then-not-fits
returns-then-not-fits c =
    let a = c.args in
    (too_many a.shape.slots a.shape.b a.used a.strip.now c.fits.result c.fits.ensures (used-fits (arena-stack c.requires.arena)) c.if-not-fits.true, refl)

pub plant_one-root-requires : goal.plant_one-root-requires
plant_one-root-requires c =
    let all_fit : c.args.used + trie_nodes c.args.shape.b c.args.strip.now ≤ c.args.shape.slots =
    fit c.args.shape.slots c.args.shape.b c.args.used c.args.strip.now c.fits.result c.fits.ensures (used-fits (arena-stack c.requires.arena)) c.if-not-fits.false in
    let s = some-nodes c.args.shape.b c.args.strip.now c.requires.in_bounds in
    record {
      arena = c.requires.arena;
      suffix_bound = c.requires.by_index _ (omega arith);
      b_bound_2 = omega (arith, all_fit);
    }

pub overflow_add-used : goal.overflow_add-used
overflow_add-used c =
    let all_fit : c.args.used + trie_nodes c.args.shape.b c.args.strip.now ≤ c.args.shape.slots =
    fit c.args.shape.slots c.args.shape.b c.args.used c.args.strip.now c.fits.result c.fits.ensures (used-fits (arena-stack c.requires.arena)) c.if-not-fits.false in
    omega (arith, some-nodes c.args.shape.b c.args.strip.now c.requires.in_bounds, all_fit)

pub grow-left-requires : goal.grow-left-requires
grow-left-requires c =
    let all_fit : c.args.used + trie_nodes c.args.shape.b c.args.strip.now ≤ c.args.shape.slots =
    fit c.args.shape.slots c.args.shape.b c.args.used c.args.strip.now c.fits.result c.fits.ensures (used-fits (arena-stack c.requires.arena)) c.if-not-fits.false in
    let p = c.plant_one-root.ensures in
    record {
      arena = p.arena;
      root = p.root;
      in_bounds = c.requires.in_bounds;
      by_index = c.requires.by_index;
      distinct = c.requires.distinct;
      root_value = p.suffixes;
      strip_bound = left_over _ _ _ _ _ _ _ _ c.args.strip.now p all_fit;
    }

pub returns : goal.returns
returns c = planted-then _ _ _ _ _ _ _ _ _ _ _ _ c.plant_one-root.ensures c.grow-left.ensures
