-- The bit itself is tested and cleared; then emptied nodes are freed upward, to one that holds something or with the root. Assumes nothing.
use mathlib.Core.Path.{◌≡◌, refl}
use Prim.Native.Nat.{ℕ, ◌<◌, ◌≤◌}
use native.Mathlib.Omega.{arith}
use Rattle.arena.specs.Arena.{nodes_in}
use Rattle.arena.proofs.Stacks.{used-fits}
use Rattle.trie.proofs.Lookup.{there, is_byte, set-bit, clear-bit, missed}
use Rattle.trie.proofs.Open.{here, place, above}
use Rattle.trie.proofs.Shrinking.{start, up, some-used, gone, vanished}
use Rattle.trie.proofs.remove.Goals as goal

pub returns-then-j-b : goal.returns-then-j-b
returns-then-j-b c = (missed c.descend-n.ensures.walked (c.descend-n.ensures.clear c.if-j-b.true), refl)

pub test-requires : goal.test-requires
test-requires c =
    record {
      arena_len = c.requires.arena.tries.long;
      n_lt_slots = (there c.requires.arena.tries.wf c.requires.root c.descend-n.ensures.walked).in-range;
      x_bound = is_byte _ _ _ _ c.byte-y.ensures;
    }

pub returns-then-not-test : goal.returns-then-not-test
returns-then-not-test c =
    (missed c.descend-n.ensures.walked (clear-bit c.args.shape.slots c.args.arena.now c.descend-n.result.n _ _ _ c.byte-y.ensures c.test.ensures c.if-not-test.true), refl)

pub clear_bit-requires : goal.clear_bit-requires
clear_bit-requires c =
    record {
      arena_len = c.requires.arena.tries.long;
      n_lt_slots = (there c.requires.arena.tries.wf c.requires.root c.descend-n.ensures.walked).in-range;
      x_bound = is_byte _ _ _ _ c.byte-y.ensures;
    }

pub loop-used-init : goal.loop-used-init
loop-used-init c =
    start _ _ _ _ _ _ _ _ _ _ c.if-j-b.false c.requires.arena c.requires.root c.requires.suffix_bound c.descend-n.ensures.walked c.byte-y.ensures
    (set-bit c.args.shape.slots c.args.arena.now c.descend-n.result.n _ _ _ refl c.test.ensures c.if-not-test.false) c.clear_bit.ensures.made c.clear_bit.ensures.spare c.clear_bit.auto.arena

pub is_empty-requires : goal.is_empty-requires
is_empty-requires c =
    let o = c.loop-used.invariant.1.state in
    record {
      arena_len = o.long;
      n_lt_slots = (here o).in-range;
    }

pub returns-then-not-is_empty : goal.returns-then-not-is_empty
returns-then-not-is_empty c =
    gone c.loop-used.invariant.1 c.requires.suffix_bound c.loop-used.invariant.0 (c.is_empty.ensures.no c.if-not-is_empty.true)

pub overflow_sub-slots : goal.overflow_sub-slots
overflow_sub-slots c =
    let fits : c.loop-used.left ≤ c.args.shape.slots =
    used-fits c.loop-used.invariant.1.state.stack in
    omega (arith, fits)

pub free-requires : goal.free-requires
free-requires c =
    let o = c.loop-used.invariant.1.state in
    record {
      arena_len = o.long;
      f_lt_slots = (here o).in-range;
      place_lt_slots = place o;
    }

pub overflow_sub-result : goal.overflow_sub-result
overflow_sub-result c = omega (arith, some-used c.loop-used.invariant.1)

pub returns-then-j-eq0 : goal.returns-then-j-eq0
returns-then-j-eq0 c =
    let none : (y : ℕ) → y < 256 → (nodes_in c.args.shape.slots c.loop-used.arena).bit c.loop-used.n y ≡ 0 =
    c.is_empty.ensures.yes c.if-not-is_empty.false in
    vanished c.loop-used.invariant.1 c.requires.suffix_bound c.loop-used.invariant.0 c.if-j-eq0.true none _ c.free.auto.arena c.free.ensures.freed c.free.ensures.pushed

pub parent-p-requires : goal.parent-p-requires
parent-p-requires c =
    let o = c.loop-used.invariant.1.state in
    record {
      arena_len = o.long;
      n_lt_slots = (here o).in-range;
    }

pub byte-x-requires : goal.byte-x-requires
byte-x-requires c =
    let o = c.loop-used.invariant.1.state in
    record {
      arena_len = o.long;
      n_lt_slots = (here o).in-range;
    }

pub overflow_sub-slots-in-loop-used : goal.overflow_sub-slots-in-loop-used
overflow_sub-slots-in-loop-used c =
    let fits : c.loop-used.left ≤ c.args.shape.slots =
    used-fits c.loop-used.invariant.1.state.stack in
    omega (arith, fits)

pub unhang-requires : goal.unhang-requires
unhang-requires c =
    let o = c.loop-used.invariant.1.state in
    let u = above o (omega (arith, c.if-j-eq0.false)) in
    record {
      arena_len = o.long;
      p_lt_slots = rw c.parent-p.ensures u.in-range;
      f_lt_slots = (here o).in-range;
      x_bound = rw c.byte-x.ensures u.byte;
      place_lt_slots = place o;
    }

pub overflow_sub-left : goal.overflow_sub-left
overflow_sub-left c = omega (arith, some-used c.loop-used.invariant.1)

pub loop-used-preserved : goal.loop-used-preserved
loop-used-preserved c =
    let none : (y : ℕ) → y < 256 → (nodes_in c.args.shape.slots c.loop-used.arena).bit c.loop-used.n y ≡ 0 =
    c.is_empty.ensures.yes c.if-not-is_empty.false in
    (c.loop-used.invariant.0, up c.loop-used.invariant.1 (omega (arith, c.if-j-eq0.false)) none _ c.unhang.auto.arena _ _ c.parent-p.ensures c.byte-x.ensures c.unhang.ensures.unhung c.unhang.ensures.pushed)
