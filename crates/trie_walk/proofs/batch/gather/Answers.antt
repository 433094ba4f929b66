-- The maps of the nodes passed stand side by side. Assumes nothing.
use mathlib.Core.Path.{◌∙◌}
use native.Mathlib.Omega.{arith}
use lib.ListN.{drop, get_or}
use Rattle.region.specs.Nodes.{node_word}
use Rattle.trie_walk.proofs.Copies.{one_more}
use Rattle.trie_walk.proofs.batch.gather.Goals as goal

pub loop-i-init : goal.loop-i-init
loop-i-init c = (c.requires.maps_len, λ e h. absurd (omega arith))

pub copy-requires : goal.copy-requires
copy-requires c =
    record {
      arena_len = c.requires.arena_len;
      n_lt_slots = c.requires.by_index c.loop-i.i c.loop-i-test.true;
      i_bound = omega arith;
      maps_len = c.loop-i.invariant.0;
    }

pub loop-i-preserved : goal.loop-i-preserved
loop-i-preserved c =
    let a = c.args in
    (c.copy.ensures.long ∙ c.loop-i.invariant.0, one_more (λ i. node_word (drop a.slots a.arena.now) (get_or a.nodes.now i 0)) c.loop-i.maps _ c.loop-i.i c.loop-i.invariant.1 c.copy.ensures)

pub returns : goal.returns
returns c = λ e h. c.loop-i.invariant.1 e (omega arith)
