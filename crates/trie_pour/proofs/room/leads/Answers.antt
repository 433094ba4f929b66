-- The first i words are the leading bytes of the first i suffixes, the others as they were. Assumes nothing.
use mathlib.Core.Path.{refl, ◌∙◌}
use native.Mathlib.Omega.{arith}
use lib.ListN.{length-set}
use Rattle.trie_pour.proofs.Counting.{head_of, lead-more, lead-all}
use Rattle.trie_pour.proofs.room.leads.Goals as goal

pub loop-i-init : goal.loop-i-init
loop-i-init c = (refl, refl)

pub loop-i-preserved : goal.loop-i-preserved
loop-i-preserved c =
    let a = c.args in
    let o = c.loop-i in (
      length-set o.out o.i c.lead.result ∙ o.invariant.0,
      lead-more (head_of a.b a.j) a.strip.now a.out.now o.out o.i c.lead.result (omega arith) c.requires.strip_in_bounds o.invariant.1 c.lead.ensures,
    )

pub returns : goal.returns
returns c =
    let a = c.args in
    let o = c.loop-i in
    lead-all (head_of a.b a.j) a.strip.now a.out.now o.out o.i (omega arith) c.loop-i-test.false o.invariant.1
