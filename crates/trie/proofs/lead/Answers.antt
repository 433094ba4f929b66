-- The invariant: n is where the first j bytes lead. The bits there are set, since the suffix is a member. Assumes nothing.
use native.Mathlib.Omega.{arith}
use Rattle.trie.proofs.Lookup.{there, more, is_byte, next_bit}
use Rattle.trie.proofs.lead.Goals as goal

pub child-n-requires : goal.child-n-requires
child-n-requires c =
    record {
      arena_len = c.requires.tries.long;
      n_lt_slots = (there c.requires.tries.wf c.requires.root c.loop-j.invariant.1).in-range;
      x_bound = is_byte _ _ _ _ c.byte.ensures;
    }

pub loop-j-preserved : goal.loop-j-preserved
loop-j-preserved c =
    let w = c.loop-j.invariant.1 in
    (omega arith, more w _ _ c.byte.ensures (next_bit w c.requires.root_value c.byte.result c.byte.ensures) c.child-n.ensures (omega (arith, c.requires.d_lt_b)))
