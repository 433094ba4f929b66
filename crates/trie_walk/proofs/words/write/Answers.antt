-- What is left of the word is poured as the whole word was; each turn puts its lowest number. Assumes nothing.
use mathlib.Core.Path.{refl, sym, ap, ◌∙◌}
use Prim.Native.Nat.{◌+◌}
use native.Mathlib.Omega.{arith}
use lib.ListN.{length-set}
use Rattle.trie_walk.specs.Pour.{state, poured}
use Rattle.trie_walk.specs.Words.{numbers_in}
use Rattle.trie_walk.proofs.Pours.{poured-none, poured-full}
use Rattle.trie_walk.proofs.Numbers.{Without, fewer, put_lowest, none-numbers}
use Rattle.trie_walk.proofs.words.write.Goals as goal

pub loop-w-init : goal.loop-w-init
loop-w-init c = (refl, refl)

pub shape_of-out-then-at-out : goal.shape_of-out-then-at-out
shape_of-out-then-at-out c = c.loop-w.invariant.0

pub returns-then-at-out : goal.returns-then-at-out
returns-then-at-out c =
    let at = c.loop-w in
    sym (poured-full (numbers_in at.w c.args.base) at.at at.out c.if-at-out.true) ∙ at.invariant.1

pub overflow_add-out : goal.overflow_add-out
overflow_add-out c = omega (arith, c.lowest-k.ensures.small)

pub loop-w-smaller : goal.loop-w-smaller
loop-w-smaller c =
    let L = c.lowest-k.ensures in
    let W : Without c.loop-w.w c.lowest-k.result c.without_lowest-w.result =
    record { lowest = L; here = c.without_lowest-w.ensures.here c.lowest-k.result L; other = c.without_lowest-w.ensures.other c.lowest-k.result L } in
    omega (arith, fewer W)

pub loop-w-preserved : goal.loop-w-preserved
loop-w-preserved c =
    let at = c.loop-w in
    let L = c.lowest-k.ensures in
    let W : Without at.w c.lowest-k.result c.without_lowest-w.result =
    record { lowest = L; here = c.without_lowest-w.ensures.here c.lowest-k.result L; other = c.without_lowest-w.ensures.other c.lowest-k.result L } in
    let base = c.args.base in
    (length-set at.out at.at (base + c.lowest-k.result) ∙ at.invariant.0, sym (put_lowest W base at.at at.out c.if-at-out.false) ∙ at.invariant.1)

pub shape_of-out : goal.shape_of-out
shape_of-out c = c.loop-w.invariant.0

pub returns : goal.returns
returns c =
    let at = c.loop-w in
    sym (poured-none (state 0 at.at at.out))
    ∙ sym (ap (λ xs. poured xs (state 0 at.at at.out)) (none-numbers c.args.base at.w c.loop-w-test.false)) ∙ at.invariant.1
