-- The invariant: n is where the first j bytes lead, and the bits on the way are set. Assumes nothing.
use Prim.Native.Nat.{◌<◌}
use Rattle.trie.proofs.Lookup.{there, is_byte}
use Rattle.trie.proofs.descend.Goals as goal

pub test-requires : goal.test-requires
test-requires c =
    let in-range : c.loop-j.n < c.args.shape.slots =
    (there c.requires.tries.wf c.requires.root c.loop-j.invariant).in-range in
    record {
      arena_len = c.requires.tries.long;
      n_lt_slots = in-range;
      x_bound = is_byte _ _ _ _ c.byte-x.ensures;
    }

pub child-n-requires : goal.child-n-requires
child-n-requires c =
    let in-range : c.loop-j.n < c.args.shape.slots =
    (there c.requires.tries.wf c.requires.root c.loop-j.invariant).in-range in
    record {
      arena_len = c.requires.tries.long;
      n_lt_slots = in-range;
      x_bound = is_byte _ _ _ _ c.byte-x.ensures;
    }
