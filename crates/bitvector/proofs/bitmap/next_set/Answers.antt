-- At first what is left of the word at `from`, then word by word: no bit is set from `from` to word i. Assumes nothing.
use Prim.Native.Nat.{◌/◌}
use native.Mathlib.Omega.{arith}
use Rattle.bitvector.proofs.Search.{walk_start, walk-next, walk-passed, walk-found, passed-all}
use Rattle.bitvector.proofs.RankLaws.{bit-out}
use Rattle.bitvector.proofs.bitmap.next_set.Goals as goal

pub returns-then-k-s : goal.returns-then-k-s
returns-then-k-s c j h = bit-out c.args.s.now j (omega arith)

pub returns-then-w-ne0 : goal.returns-then-w-ne0
returns-then-w-ne0 c =
    let a = c.args in
    walk-found (walk_start a.s.now a.from c.if-k-s.false (c.type_inv.s (a.from / 64)).fits) c.lowest.ensures

pub loop-i-init : goal.loop-i-init
loop-i-init c =
    let a = c.args in
    walk-passed (walk_start a.s.now a.from c.if-k-s.false (c.type_inv.s (a.from / 64)).fits) c.if-w-ne0.false

pub returns-then-s-i-ne0 : goal.returns-then-s-i-ne0
returns-then-s-i-ne0 c = walk-found (walk-next c.loop-i.invariant c.loop-i-test.true) c.lowest-then-s-i-ne0.ensures

pub loop-i-preserved : goal.loop-i-preserved
loop-i-preserved c = walk-passed (walk-next c.loop-i.invariant c.loop-i-test.true) c.if-s-i-ne0.false

pub returns : goal.returns
returns c = passed-all c.loop-i.invariant c.loop-i-test.false
