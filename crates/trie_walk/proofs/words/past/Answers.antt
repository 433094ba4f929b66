-- Each turn drops the lowest number, of the word and of its list. Assumes nothing.
use mathlib.Core.Path.{◌≡◌, sym, ap, ◌∙◌}
use Prim.Native.Nat.{ℕ, ◌-◌, ◌+◌}
use native.Mathlib.Omega.{arith}
use lib.ListN.{drop}
use Rattle.trie_walk.specs.Words.{numbers_in}
use Rattle.trie_walk.proofs.Numbers.{Without, drop-lowest, none-drop}
use Rattle.trie_walk.proofs.words.past.Goals as goal

pub loop-init : goal.loop-init
loop-init c base =
    let z : c.args.skip - 0 ≡ c.args.skip = omega arith in
    ap (λ (s : ℕ). drop s (numbers_in c.args.w base)) z

pub returns-then-w-eq0 : goal.returns-then-w-eq0
returns-then-w-eq0 c base = none-drop base c.loop.w (c.args.skip - c.loop.counter) c.if-w-eq0.true ∙ c.loop.invariant base

pub lowest-requires : goal.lowest-requires
lowest-requires c = c.if-w-eq0.false

pub without-w-requires : goal.without-w-requires
without-w-requires c = c.lowest.ensures.small

pub loop-preserved : goal.loop-preserved
loop-preserved c base =
    let at = c.loop in
    let W : Without at.w c.lowest.result c.without-w.result =
    record { lowest = c.lowest.ensures; here = c.without-w.ensures.here; other = c.without-w.ensures.other } in
    let s = c.args.skip in
    let n : s - (at.counter + 1) ≡ s - at.counter - 1 = omega arith in
    ap (λ (k : ℕ). drop k (numbers_in c.without-w.result base)) n ∙ sym (drop-lowest W base (s - at.counter) (omega (arith, c.loop-test.true))) ∙ at.invariant base

pub returns : goal.returns
returns c base =
    let at = c.loop in
    let z : c.args.skip - at.counter ≡ 0 = omega (arith, c.loop-test.false) in
    ap (λ (s : ℕ). drop s (numbers_in at.w base)) (sym z) ∙ at.invariant base
