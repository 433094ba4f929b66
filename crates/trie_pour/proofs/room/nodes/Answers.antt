-- n nodes for the lengths below j: with no byte there is the root. Assumes nothing.
use mathlib.Core.Path.{◌≡◌, sym, ap, ◌∙◌}
use Prim.Native.Nat.{◌+◌, ◌-◌}
use native.Mathlib.Omega.{arith}
use Rattle.lists.specs.Sums.{sum}
use Rattle.model.specs.Room.{leading}
use Rattle.trie_pour.proofs.Counting.{root-sum, sum-next, nodes-sum}
use Rattle.trie_pour.proofs.room.nodes.Goals as goal

pub loop-j-init : goal.loop-j-init
loop-j-init c = (omega arith, c.requires.le_b, sym (root-sum _ c.args.strip.now c.requires.in_bounds c.requires.by_index), omega arith)

pub overflow_add-n : goal.overflow_add-n
overflow_add-n c = omega (arith, c.heads-n.ensures.few)

pub loop-j-smaller : goal.loop-j-smaller
loop-j-smaller c = omega arith

pub loop-j-preserved : goal.loop-j-preserved
loop-j-preserved c =
    let a = c.args in
    let o = c.loop-j in
    (omega arith, omega arith, sum-next (leading a.b a.strip.now) o.n o.j c.heads-n.result o.invariant.2 c.heads-n.ensures.is, omega (arith, c.heads-n.ensures.few))

pub overflow_add-n-then-b-gt1 : goal.overflow_add-n-then-b-gt1
overflow_add-n-then-b-gt1 c = omega (arith, c.heads-n-then-b-gt1.ensures.few)

pub returns-then-b-gt1 : goal.returns-then-b-gt1
returns-then-b-gt1 c =
    let o = c.loop-j in
    let a = c.args in
    let f = leading a.b a.strip.now in
    let e : o.j ≡ a.b - 1 = omega (arith, c.loop-j-test.false, c.if-b-gt1.true) in
    nodes-sum a.b (a.b - 1 + 1) (o.n + c.heads-n-then-b-gt1.result) a.strip.now (sum-next f o.n (a.b - 1) c.heads-n-then-b-gt1.result (o.invariant.2 ∙ ap (sum f) e) c.heads-n-then-b-gt1.ensures.is) (omega arith) (omega (arith, c.if-b-gt1.true))

pub returns-else-b-gt1 : goal.returns-else-b-gt1
returns-else-b-gt1 c = let o = c.loop-j in let a = c.args in nodes-sum a.b o.j o.n a.strip.now o.invariant.2 (omega (arith, c.if-b-gt1.false, o.invariant.0)) o.invariant.1
