-- Down from where the walk stops, a node at a time, and the last bit. Assumes nothing.
use mathlib.Core.Path.{◌≡◌, refl, subst}
use Prim.Native.Nat.{◌<◌, ◌-◌}
use native.Mathlib.Omega.{arith}
use Rattle.arena.proofs.Stacks.{arena-stack, used-fits}
use Rattle.trie.proofs.Lookup.{there, is_byte, set-bit, clear-bit, found, last-level}
use Rattle.trie.proofs.Open.{whole, here, top-range, apart}
use Rattle.trie.proofs.Growing.{Growing, below-last, begin, room, down, no_room, finish}
use Rattle.trie.proofs.insert.Goals as goal

pub test-requires : goal.test-requires
test-requires c =
    record {
      arena_len = c.requires.arena.tries.long;
      n_lt_slots = (there c.requires.arena.tries.wf c.requires.root c.descend-n.ensures.walked).in-range;
      x_bound = is_byte _ _ _ _ c.byte.ensures;
    }

pub returns-then-test : goal.returns-then-test
returns-then-test c =
    let d = c.descend-n in
    let one = set-bit c.args.shape.slots c.args.arena.now d.result.n c.byte.result _ c.test.result c.byte.ensures c.test.ensures c.if-test.true in
    (found c.descend-n.ensures.walked c.requires.suffix_bound one (last-level c.descend-n.ensures.walked c.descend-n.ensures.clear one), refl)

pub overflow_add-used : goal.overflow_add-used
overflow_add-used c = omega (arith, used-fits (arena-stack c.requires.arena))

pub returns-then-slots-j : goal.returns-then-slots-j
returns-then-slots-j c =
    no_room c.requires.arena c.requires.root c.requires.suffix_bound c.descend-n.ensures.walked (clear-bit c.args.shape.slots c.args.arena.now c.descend-n.result.n _ _ _ c.byte.ensures c.test.ensures c.if-test.false) _ (omega arith)

pub loop-i-init : goal.loop-i-init
loop-i-init c =
    begin (whole c.requires.arena c.requires.root c.descend-n.ensures.walked (clear-bit c.args.shape.slots c.args.arena.now c.descend-n.result.n _ _ _ c.byte.ensures c.test.ensures c.if-test.false)) (omega arith)

pub hang-requires : goal.hang-requires
hang-requires c =
    let has_room : c.loop-i.left < c.args.shape.slots =
    room c.loop-i.invariant (below-last c.loop-i-test.true) in
    let o = c.loop-i.invariant.state in
    let t = below-last c.loop-i-test.true in
    record {
      arena_len = o.long;
      n_lt_slots = (here o).in-range;
      f_lt_slots = top-range o t has_room _ c.spare-f.ensures;
      x_bound = is_byte _ _ _ _ c.byte-x.ensures;
      n_nonzero = apart o t has_room _ c.spare-f.ensures;
      level_bound = omega arith;
    }

pub loop-i-preserved : goal.loop-i-preserved
loop-i-preserved c = down c.loop-i.invariant (below-last c.loop-i-test.true) _ c.spare-f.ensures _ _ c.byte-x.ensures c.hang.auto.arena c.hang.ensures.hung c.hang.ensures.spare

pub set_bit-requires : goal.set_bit-requires
set_bit-requires c =
    let o = c.loop-i.invariant.state in
    record {
      arena_len = o.long;
      n_lt_slots = (here o).in-range;
      x_bound = is_byte _ _ _ _ c.byte-2.ensures;
    }

pub returns : goal.returns
returns c =
    let e : c.loop-i.i ≡ c.args.shape.b - 1 = omega (arith, c.loop-i-test.false, c.loop-i.invariant.state.walked.small) in
    finish _ _ _ _ _ c.descend-n.result.n _ _ c.loop-i.arena _ _ _ _ _ (omega arith) c.requires.arena c.requires.root c.requires.suffix_bound c.descend-n.ensures.walked
    (clear-bit c.args.shape.slots c.args.arena.now c.descend-n.result.n _ _ _ c.byte.ensures c.test.ensures c.if-test.false) (subst (Growing _ _ _ _ _ _ _ _ _ _) e c.loop-i.invariant)
    c.byte-2.ensures c.set_bit.ensures.made c.set_bit.ensures.spare c.set_bit.auto.arena
