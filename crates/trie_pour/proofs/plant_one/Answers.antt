-- A root with an empty map, then down a node at a time, and the last bit. Assumes nothing.
use mathlib.Core.Path.{◌≡◌, refl, sym, ap, ◌∙◌}
use Prim.Native.Nat.{◌-◌, ◌<◌}
use native.Mathlib.Omega.{arith}
use Rattle.region.specs.Tries.{byte_of}
use Rattle.trie.proofs.Lookup.{is_byte}
use Rattle.trie.proofs.Open.{here, apart}
use Rattle.trie.proofs.Open as opened
use Rattle.trie.proofs.Growing.{below-last, room, down}
use Rattle.trie_pour.proofs.Rooting.{Bare, bare, rooted, top-range, finish}
use Rattle.trie_pour.proofs.plant_one.Goals as goal

pub spare-root-requires : goal.spare-root-requires
spare-root-requires c =
    record {
      arena_len = c.requires.arena.tries.long;
      i_lt_slots = omega arith;
    }

pub make_node-requires : goal.make_node-requires
make_node-requires c =
    record {
      arena_len = c.requires.arena.tries.long;
      f_lt_slots = top-range c.requires.arena c.args.shape.levels.0 (omega arith) _ c.spare-root.ensures;
    }

pub loop-j-init : goal.loop-j-init
loop-j-init c = rooted c.requires.arena c.args.shape.levels.0 (omega arith) _ c.spare-root.ensures _ _ _ _ c.make_node.auto.arena c.make_node.ensures.made c.make_node.ensures.spare refl c.args.suffix c.requires.b_bound_2

pub overflow_add-left-in-loop-j : goal.overflow_add-left-in-loop-j
overflow_add-left-in-loop-j c =
    let has_room : c.loop-j.left < c.args.shape.slots =
    room c.loop-j.invariant (below-last c.loop-j-test.true) in
    omega (arith, has_room)

pub overflow_sub-slots-in-loop-j : goal.overflow_sub-slots-in-loop-j
overflow_sub-slots-in-loop-j c =
    let has_room : c.loop-j.left < c.args.shape.slots =
    room c.loop-j.invariant (below-last c.loop-j-test.true) in
    omega (arith, has_room)

pub spare-f-requires : goal.spare-f-requires
spare-f-requires c =
    let has_room : c.loop-j.left < c.args.shape.slots =
    room c.loop-j.invariant (below-last c.loop-j-test.true) in
    record {
      arena_len = c.loop-j.invariant.state.long;
      i_lt_slots = omega (arith, has_room);
    }

pub hang-requires : goal.hang-requires
hang-requires c =
    let has_room : c.loop-j.left < c.args.shape.slots =
    room c.loop-j.invariant (below-last c.loop-j-test.true) in
    let o = c.loop-j.invariant.state in
    let t = (below-last c.loop-j-test.true) in
    let r = has_room in
    record {
      arena_len = o.long;
      n_lt_slots = (here o).in-range;
      f_lt_slots = opened.top-range o t r _ c.spare-f.ensures;
      x_bound = is_byte _ _ _ _ c.byte-x.ensures;
      n_nonzero = apart o t r _ c.spare-f.ensures;
      level_bound = omega arith;
    }

pub overflow_add-left-in-loop-j-2 : goal.overflow_add-left-in-loop-j-2
overflow_add-left-in-loop-j-2 c =
    let has_room : c.loop-j.left < c.args.shape.slots =
    room c.loop-j.invariant (below-last c.loop-j-test.true) in
    omega (arith, has_room)

pub loop-j-smaller : goal.loop-j-smaller
loop-j-smaller c = omega arith

pub loop-j-preserved : goal.loop-j-preserved
loop-j-preserved c = down c.loop-j.invariant (below-last c.loop-j-test.true) _ c.spare-f.ensures _ _ c.byte-x.ensures c.hang.auto.arena c.hang.ensures.hung c.hang.ensures.spare

pub set_bit-requires : goal.set_bit-requires
set_bit-requires c =
    let o = c.loop-j.invariant.state in
    record {
      arena_len = o.long;
      n_lt_slots = (here o).in-range;
      x_bound = is_byte _ _ _ _ c.byte.ensures;
    }

pub shape_of-arena : goal.shape_of-arena
shape_of-arena c = c.set_bit.auto.arena ∙ c.loop-j.invariant.state.long ∙ sym c.requires.arena.tries.long

pub returns : goal.returns
returns c =
    let made : Bare c.args.shape.slots c.args.shape.b c.args.arena.now c.args.container c.spare-root.result c.make_node.new.arena =
    bare c.requires.arena c.args.shape.levels.0 (omega arith) _ c.spare-root.ensures _ c.args.container _ _ c.make_node.auto.arena c.make_node.ensures.made c.make_node.ensures.spare refl in
    let e : c.loop-j.j ≡ c.args.shape.b - 1 = omega (arith, c.loop-j-test.false) in
    finish _ _ _ _ _ _ _ c.make_node.new.arena c.loop-j.arena _ _ _ _ c.args.shape.b (omega arith) c.requires.suffix_bound made c.loop-j.invariant
    (c.byte.ensures ∙ ap (byte_of c.args.shape.b c.args.suffix) (sym e)) c.set_bit.ensures.made c.set_bit.ensures.spare c.set_bit.auto.arena
