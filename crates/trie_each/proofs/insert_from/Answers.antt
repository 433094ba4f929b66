-- The cases of an insert that begins two levels above the end. Assumes nothing.
use mathlib.Core.Path.{◌≡◌, refl, ◌∙◌}
use mathlib.Core.Bool.{true, false}
use native.Mathlib.Omega.{arith}
use Rattle.arena.specs.Arena.{nodes_in}
use Rattle.arena.proofs.Stacks.{arena-stack, used-fits}
use Rattle.trie.proofs.Lookup.{set-bit, clear-bit}
use Rattle.trie_each.proofs.From.{Begun, node-small, x-small, y-small, child-small, old, added, added-stays, full, free-small, free-apart, hung-added, hung-stays}
use Rattle.trie_each.proofs.insert_from.Goals as goal
use Rattle.trie_each.proofs.insert_from.Goals.{After-byte-y, After-test}

-- where both bytes are known
begun : (c : After-byte-y) → Begun c.args.shape.slots c.args.shape.b c.args.used c.args.arena.now c.args.root c.args.suffix c.args.n c.byte-x.result c.byte-y.result
begun c = record { arena = c.requires.arena; is-root = c.requires.root; two = c.requires.le_b; small = c.requires.suffix_bound; walked = c.requires.walked; is_x = c.byte-x.ensures; is_y = c.byte-y.ensures }

-- a child is there, and none is
found-set : (c : After-test) → c.test.result ≡ true → (nodes_in c.args.shape.slots c.args.arena.now).bit c.args.n c.byte-x.result ≡ 1
found-set c e = set-bit c.args.shape.slots c.args.arena.now c.args.n c.byte-x.result _ c.test.result refl c.test.ensures e

found-clear : (c : After-test) → c.test.result ≡ false → (nodes_in c.args.shape.slots c.args.arena.now).bit c.args.n c.byte-x.result ≡ 0
found-clear c e = clear-bit c.args.shape.slots c.args.arena.now c.args.n c.byte-x.result _ c.test.result refl c.test.ensures e

pub test-requires : goal.test-requires
test-requires c =
    let g = begun (goal.at.test-requires c).After-byte-y in
    record {
      arena_len = g.arena.tries.long;
      n_lt_slots = node-small g;
      x_bound = x-small g;
    }

pub child-f-requires : goal.child-f-requires
child-f-requires c =
    let g = begun (goal.at.child-f-requires c).After-byte-y in
    record {
      arena_len = g.arena.tries.long;
      n_lt_slots = node-small g;
      x_bound = x-small g;
    }

pub test-requires-then-test : goal.test-requires-then-test
test-requires-then-test c =
    let g = begun (goal.at.test-requires-then-test c).After-byte-y in
    record {
      arena_len = g.arena.tries.long;
      n_lt_slots = child-small g _ (found-set (goal.at.test-requires-then-test c).After-test c.if-test.true) c.child-f.ensures;
      x_bound = y-small g;
    }

pub returns-then-test-2 : goal.returns-then-test-2
returns-then-test-2 c =
    let g = begun (goal.at.returns-then-test-2 c).After-byte-y in
    record {
      inserted = old g c.child-f.result (found-set (goal.at.returns-then-test-2 c).After-test c.if-test.true) c.child-f.ensures (set-bit c.args.shape.slots c.args.arena.now c.child-f.result c.byte-y.result _ c.test-then-test.result refl c.test-then-test.ensures c.if-test-2.true);
      stays = g.walked;
    }

pub set_bit-requires : goal.set_bit-requires
set_bit-requires c =
    let g = begun (goal.at.set_bit-requires c).After-byte-y in
    record {
      arena_len = g.arena.tries.long;
      n_lt_slots = child-small g _ (found-set (goal.at.set_bit-requires c).After-test c.if-test.true) c.child-f.ensures;
      x_bound = y-small g;
    }

pub returns-then-test : goal.returns-then-test
returns-then-test c =
    let g = begun (goal.at.returns-then-test c).After-byte-y in
    let zero = clear-bit c.args.shape.slots c.args.arena.now c.child-f.result c.byte-y.result _ c.test-then-test.result refl c.test-then-test.ensures c.if-test-2.false in
    record {
      inserted = added g c.child-f.result (found-set (goal.at.returns-then-test c).After-test c.if-test.true) c.child-f.ensures zero _ c.set_bit.ensures.made c.set_bit.ensures.spare c.set_bit.auto.arena (used-fits (arena-stack g.arena));
      stays = added-stays g c.child-f.result (found-set (goal.at.returns-then-test c).After-test c.if-test.true) c.child-f.ensures zero _ c.set_bit.ensures.made c.set_bit.ensures.spare c.set_bit.auto.arena;
    }

pub returns-then-used-slots : goal.returns-then-used-slots
returns-then-used-slots c =
    let g = begun (goal.at.returns-then-used-slots c).After-byte-y in
    record {
      inserted = full g (found-clear (goal.at.returns-then-used-slots c).After-test c.if-test.false) _ (omega (arith, c.if-used-slots.true));
      stays = g.walked;
    }

pub hang-requires : goal.hang-requires
hang-requires c =
    let g = begun (goal.at.hang-requires c).After-byte-y in
    record {
      arena_len = g.arena.tries.long;
      n_lt_slots = node-small g;
      f_lt_slots = free-small g (found-clear (goal.at.hang-requires c).After-test c.if-test.false) c.if-used-slots.false _ c.spare-f.ensures;
      x_bound = x-small g;
      n_nonzero = free-apart g (found-clear (goal.at.hang-requires c).After-test c.if-test.false) c.if-used-slots.false _ c.spare-f.ensures;
      level_bound = omega arith;
    }

pub set_bit-requires-2 : goal.set_bit-requires-2
set_bit-requires-2 c =
    let g = begun (goal.at.set_bit-requires-2 c).After-byte-y in
    record {
      arena_len = c.hang.auto.arena ∙ g.arena.tries.long;
      n_lt_slots = free-small g (found-clear (goal.at.set_bit-requires-2 c).After-test c.if-test.false) c.if-used-slots.false _ c.spare-f.ensures;
      x_bound = y-small g;
    }

pub returns : goal.returns
returns c =
    let g = begun (goal.at.returns c).After-byte-y in
    record {
      inserted = hung-added g (found-clear (goal.at.returns c).After-test c.if-test.false) c.if-used-slots.false _ c.spare-f.ensures _ c.hang.ensures.hung c.hang.ensures.spare c.hang.auto.arena _ c.set_bit-2.ensures.made c.set_bit-2.ensures.spare c.set_bit-2.auto.arena;
      stays = hung-stays g (found-clear (goal.at.returns c).After-test c.if-test.false) c.if-used-slots.false _ c.spare-f.ensures _ c.hang.ensures.hung c.hang.ensures.spare c.hang.auto.arena _ c.set_bit-2.ensures.made c.set_bit-2.ensures.spare c.set_bit-2.auto.arena;
    }
