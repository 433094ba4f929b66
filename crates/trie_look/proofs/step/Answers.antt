-- None stays none; at a node the bit picks between the child and none. Assumes nothing.
use mathlib.Core.Bool.{true, false}
use mathlib.Core.Path.{refl, sym, ◌∙◌}
use native.Mathlib.Omega.{arith}
use Rattle.arena.specs.Arena.{nodes_in}
use Rattle.trie.proofs.Lookup.{is_byte}
use Rattle.trie_look.proofs.Reaching.{node-steps}
use Rattle.trie_look.proofs.step.Goals as goal

pub test-requires-clause-x_bound : goal.test-requires-clause-x_bound
test-requires-clause-x_bound c = is_byte _ _ _ _ c.byte-x.ensures

pub returns-then-not-test : goal.returns-then-not-test
returns-then-not-test c =
    let x = c.byte-x in
    let v = nodes_in c.args.shape.slots c.args.arena.now in
    node-steps v c.args.shape.slots c.args.shape.b c.args.suffix c.args.j c.args.n _ x.result (v.child c.args.n x.result) false
    c.if-none-n.false (omega arith) x.ensures (sym c.if-not-test.true ∙ c.test.ensures) refl

pub child-requires-clause-x_bound : goal.child-requires-clause-x_bound
child-requires-clause-x_bound c = is_byte _ _ _ _ c.byte-x.ensures

pub returns : goal.returns
returns c =
    let x = c.byte-x in
    node-steps (nodes_in c.args.shape.slots c.args.arena.now) c.args.shape.slots c.args.shape.b c.args.suffix c.args.j c.args.n _ x.result c.child.result true
    c.if-none-n.false (omega arith) x.ensures (sym c.if-not-test.false ∙ c.test.ensures) c.child.ensures
