-- The node keeps the bit of the next member while it loses that of the one at k. Assumes nothing.
use Prim.Native.Nat.{◌+◌}
use mathlib.Core.Path.{◌≡◌, refl, sym, ◌∙◌}
use native.Mathlib.Omega.{arith}
use lib.ListN.{length}
use Rattle.trie.proofs.Lookup.{there, is_byte}
use Rattle.trie_pour.proofs.Reaping.{Reaped, reaped-from, least}
use Rattle.trie_pour.proofs.Thinning.{run-start, run_on, run_more}
use Rattle.trie_pour.proofs.reap.thin.Goals as goal

pub lead-node-requires : goal.lead-node-requires
lead-node-requires c =
    let entered : Reaped c.args.shape.slots c.args.shape.b c.args.used c.args.arena.now c.args.root c.args.out.now c.args.i c.args.used c.args.arena.now =
    reaped-from _ _ _ _ _ c.args.out.now _ c.requires.arena c.requires.root (omega (arith, c.requires.i_bound)) c.requires.root_value in
    record {
      tries = c.requires.arena.tries;
      root = c.requires.root;
      d_lt_b = omega (arith, c.args.shape.levels.0);
      root_value = least entered;
    }

pub loop-k-init : goal.loop-k-init
loop-k-init c =
    let entered : Reaped c.args.shape.slots c.args.shape.b c.args.used c.args.arena.now c.args.root c.args.out.now c.args.i c.args.used c.args.arena.now =
    reaped-from _ _ _ _ _ c.args.out.now _ c.requires.arena c.requires.root (omega (arith, c.requires.i_bound)) c.requires.root_value in
    run-start _ _ _ _ _ c.args.out.now _ _ _ entered c.requires.i_bound c.requires.i_value refl c.lead-node.ensures

pub offset_bounds-out-k : goal.offset_bounds-out-k
offset_bounds-out-k c = omega (arith, c.loop-k.invariant.reaped.inside)

pub bounds-out-k : goal.bounds-out-k
bounds-out-k c = omega (arith, c.loop-k.invariant.reaped.inside)

pub overflow_sub-b-in-loop-k : goal.overflow_sub-b-in-loop-k
overflow_sub-b-in-loop-k c = c.args.shape.levels.0

pub byte-requires : goal.byte-requires
byte-requires c = (c.loop-k.invariant.walked.small, omega (arith, c.args.shape.levels.1))

pub clear_bit-requires : goal.clear_bit-requires
clear_bit-requires c =
    let g = c.loop-k.invariant in
    let a = g.reaped.now.arena.tries in
    record {
      arena_len = a.long;
      n_lt_slots = (there a.wf g.reaped.now.root g.walked).in-range;
      x_bound = is_byte _ _ _ _ c.byte.ensures;
    }

pub overflow_add-k : goal.overflow_add-k
overflow_add-k c = omega (arith, c.loop-k.invariant.next)

pub overflow_add-k-in-loop-k : goal.overflow_add-k-in-loop-k
overflow_add-k-in-loop-k c = omega (arith, c.loop-k.invariant.next)

pub shape_of-arena-then-k-out : goal.shape_of-arena-then-k-out
shape_of-arena-then-k-out c =
    let same : length c.clear_bit.new.arena ≡ length c.args.arena.now =
    c.clear_bit.auto.arena ∙ c.loop-k.invariant.reaped.now.arena.tries.long ∙ sym c.requires.arena.tries.long in
    same

pub returns-then-k-out : goal.returns-then-k-out
returns-then-k-out c =
    let on : Reaped c.args.shape.slots c.args.shape.b c.args.used c.args.arena.now c.args.root c.args.out.now (c.loop-k.k + 1) c.args.used c.clear_bit.new.arena =
    run_on c.loop-k.invariant _ _ c.byte.ensures c.clear_bit.ensures.made c.clear_bit.ensures.spare c.clear_bit.auto.arena in
    let g = on in
    record {
      after = omega (arith, c.loop-k.invariant.after);
      inside = g.inside;
      became = g.now;
    }

pub overflow_add-k-in-loop-k-2 : goal.overflow_add-k-in-loop-k-2
overflow_add-k-in-loop-k-2 c = omega (arith, c.loop-k.invariant.next)

pub offset_bounds-out-k-in-loop-k : goal.offset_bounds-out-k-in-loop-k
offset_bounds-out-k-in-loop-k c = omega (arith, c.if-k-out.false, c.loop-k.invariant.next)

pub bounds-out-k-in-loop-k : goal.bounds-out-k-in-loop-k
bounds-out-k-in-loop-k c = omega (arith, c.if-k-out.false, c.loop-k.invariant.next)

pub shape_of-arena-then-out-k : goal.shape_of-arena-then-out-k
shape_of-arena-then-out-k c =
    let same : length c.clear_bit.new.arena ≡ length c.args.arena.now =
    c.clear_bit.auto.arena ∙ c.loop-k.invariant.reaped.now.arena.tries.long ∙ sym c.requires.arena.tries.long in
    same

pub returns-then-out-k : goal.returns-then-out-k
returns-then-out-k c =
    let on : Reaped c.args.shape.slots c.args.shape.b c.args.used c.args.arena.now c.args.root c.args.out.now (c.loop-k.k + 1) c.args.used c.clear_bit.new.arena =
    run_on c.loop-k.invariant _ _ c.byte.ensures c.clear_bit.ensures.made c.clear_bit.ensures.spare c.clear_bit.auto.arena in
    let g = on in
    record {
      after = omega (arith, c.loop-k.invariant.after);
      inside = g.inside;
      became = g.now;
    }

pub loop-k-smaller : goal.loop-k-smaller
loop-k-smaller c = omega (arith, c.loop-k.invariant.next)

pub loop-k-preserved : goal.loop-k-preserved
loop-k-preserved c = run_more c.loop-k.invariant _ _ c.byte.ensures c.clear_bit.ensures.made c.clear_bit.ensures.spare c.clear_bit.auto.arena (omega (arith, c.if-k-out.false, c.loop-k.invariant.next)) (omega (arith, c.if-out-k.false))
