-- Nothing is passed over, or all by the count, or some: then the others are written. Assumes nothing.
use mathlib.Core.Path.{◌≡◌, sym, ap, ◌∙◌}
use Prim.Native.Nat.{ℕ, ◌-◌}
use native.Mathlib.Omega.{arith}
use lib.Count.{ones}
use Rattle.trie_walk.specs.Pour.{state, poured}
use Rattle.trie_walk.specs.Words.{numbers_in}
use Rattle.trie_walk.proofs.Numbers.{pass_all, pass-some}
use Rattle.trie_walk.proofs.words.pour.Goals as goal

pub returns-then-skip-eq0 : goal.returns-then-skip-eq0
returns-then-skip-eq0 c =
    let a = c.args in
    c.write-end.ensures ∙ ap (λ (s : ℕ). poured (numbers_in a.w a.base) (state s a.at a.out.now)) (sym c.if-skip-eq0.true)

pub returns-then-n-skip : goal.returns-then-n-skip
returns-then-n-skip c =
    let a = c.args in
    let n : ones a.w ≡ c.count-n.result = sym c.count-n.ensures.is in
    sym (pass_all a.w a.base a.skip a.at a.out.now c.ranges.w.fits (omega arith) ∙ ap (λ (x : ℕ). state (a.skip - x) a.at a.out.now) n)

pub returns : goal.returns
returns c =
    let a = c.args in
    let n : ones a.w ≡ c.count-n.result = sym c.count-n.ensures.is in
    c.write-end-2.ensures
    ∙ sym (pass-some a.w c.past.result a.base a.skip a.at a.out.now c.ranges.w.fits (omega (arith, c.if-n-skip.false)) (c.past.ensures a.base))
