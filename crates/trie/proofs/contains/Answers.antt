-- Where the walk stops, the bit is the answer; above the last level it is clear. Assumes nothing.
use mathlib.Core.Path.{sym}
use Rattle.trie.proofs.Lookup.{there, is_byte, missed, answer}
use Rattle.trie.proofs.contains.Goals as goal

pub returns-then-j-b : goal.returns-then-j-b
returns-then-j-b c = sym (missed c.descend-n.ensures.walked (c.descend-n.ensures.clear c.if-j-b.true))

pub test-requires : goal.test-requires
test-requires c =
    record {
      arena_len = c.requires.tries.long;
      n_lt_slots = (there c.requires.tries.wf c.requires.root c.descend-n.ensures.walked).in-range;
      x_bound = is_byte _ _ _ _ c.byte.ensures;
    }

pub returns : goal.returns
returns c =
    let d = c.descend-n in
    answer c.args.shape.slots c.args.arena.now c.args.root c.args.suffix c.args.shape.b d.result.n d.result.j c.byte.result c.test.result
    c.descend-n.ensures.walked c.requires.suffix_bound c.byte.ensures c.descend-n.ensures.clear c.test.ensures
