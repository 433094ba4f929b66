-- The members are the entries of the output from i on; those of one node go together. Assumes nothing.
use mathlib.Core.Path.{sym, ◌∙◌}
use native.Mathlib.Omega.{arith}
use Rattle.trie_pour.proofs.Reaping.{reaped-none, least, not-only, last-left, reaped-on, reaped-more, reaped-all}
use Rattle.trie_pour.proofs.reap.empty.Goals as goal

pub loop-i-init : goal.loop-i-init
loop-i-init c = reaped-none _ _ _ _ _ c.args.out.now c.requires.arena c.requires.root c.requires.root_value

pub overflow_add-i : goal.overflow_add-i
overflow_add-i c = omega (arith, c.loop-i.invariant.inside)

pub overflow_add-i-in-loop-i : goal.overflow_add-i-in-loop-i
overflow_add-i-in-loop-i c = omega (arith, c.loop-i.invariant.inside)

pub offset_bounds-out-i : goal.offset_bounds-out-i
offset_bounds-out-i c = omega (arith, c.loop-i-test.true)

pub bounds-out-i : goal.bounds-out-i
bounds-out-i c = omega (arith, c.loop-i-test.true)

pub offset_bounds-out-i-in-loop-i : goal.offset_bounds-out-i-in-loop-i
offset_bounds-out-i-in-loop-i c = omega (arith, c.loop-i.invariant.inside)

pub bounds-out-i-in-loop-i : goal.bounds-out-i-in-loop-i
bounds-out-i-in-loop-i c = omega (arith, c.loop-i.invariant.inside)

pub thin-i-requires : goal.thin-i-requires
thin-i-requires c =
    let g = c.loop-i.invariant in
    record {
      arena = g.now.arena;
      root = g.now.root;
      i_bound = c.loop-i-test.true;
      root_value = g.now.suffixes;
      i_value = c.if-out-i.true;
    }

pub loop-i-smaller-then-out-i : goal.loop-i-smaller-then-out-i
loop-i-smaller-then-out-i c = omega (arith, c.thin-i.ensures.after, c.thin-i.ensures.inside)

pub loop-i-preserved-then-out-i : goal.loop-i-preserved-then-out-i
loop-i-preserved-then-out-i c = reaped-on c.loop-i.invariant _ c.thin-i.ensures.inside _ _ c.thin-i.ensures.became

pub offset_bounds-out-i-in-loop-i-2 : goal.offset_bounds-out-i-in-loop-i-2
offset_bounds-out-i-in-loop-i-2 c = let g = c.loop-i.invariant in omega (arith, g.inside)

pub one_less-left-requires : goal.one_less-left-requires
one_less-left-requires c =
    let g = c.loop-i.invariant in
    record {
      arena = g.now.arena;
      root = g.now.root;
      root_value = least g;
    }

pub overflow_add-i-in-loop-i-2 : goal.overflow_add-i-in-loop-i-2
overflow_add-i-in-loop-i-2 c = omega (arith, c.loop-i.invariant.inside)

pub loop-i-smaller : goal.loop-i-smaller
loop-i-smaller c = omega (arith, c.loop-i.invariant.inside)

pub loop-i-preserved : goal.loop-i-preserved
loop-i-preserved c = reaped-more c.loop-i.invariant c.loop-i-test.true _ _ (c.one_less-left.ensures.became (not-only c.loop-i.invariant c.loop-i-test.true))

pub offset_bounds-out-i-2 : goal.offset_bounds-out-i-2
offset_bounds-out-i-2 c = omega (arith, c.loop-i.invariant.inside)

pub bounds-out-i-2 : goal.bounds-out-i-2
bounds-out-i-2 c = omega (arith, c.loop-i.invariant.inside)

pub one_less-requires : goal.one_less-requires
one_less-requires c =
    let g = c.loop-i.invariant in
    record {
      arena = g.now.arena;
      root = g.now.root;
      root_value = least g;
    }

pub shape_of-arena : goal.shape_of-arena
shape_of-arena c = c.one_less.auto.arena ∙ c.loop-i.invariant.now.arena.tries.long ∙ sym c.requires.arena.tries.long

pub returns : goal.returns
returns c = reaped-all c.loop-i.invariant _ _ (c.one_less.ensures.vanished (last-left c.loop-i.invariant c.loop-i-test.false))
