-- The words passed are 0; the first that is not has a bit set. Assumes nothing.
use mathlib.Core.Path.{sym, subst, ◌∙◌}
use mathlib.Core.Bool.{true≢false, false≢true}
use Prim.Native.Nat.{ℕ, ◌^◌, ◌<◌}
use mir.Syntax.{w64}
use mir.Val.{Fits}
use native.Mathlib.Omega.{arith}
use borrow.Author.Rules.{rules}
use borrow.Author.Count.{below_more}
use lib.ListN.{drop}
use Rattle.arena.proofs.Stores.{map-empty, map-some}
use Rattle.arena.proofs.read.is_empty.Goals as goal

pub loop-i-init : goal.loop-i-init
loop-i-init c = λ k l. absurd (omega arith)

pub returns-then-word-ne0 : goal.returns-then-word-ne0
returns-then-word-ne0 c =
    let w = c.word in
    let fit : Fits w64 w.result = search rules in
    record {
      yes = λ e. absurd (false≢true e);
      no = λ _. map-some (drop c.args.slots c.args.arena.now) c.args.n c.loop-i.i c.loop-i-test.true (subst (λ (q : ℕ). q < 2 ^ 64) w.ensures fit.fits) (λ e. c.if-word-ne0.true (w.ensures ∙ e));
    }

pub loop-i-preserved : goal.loop-i-preserved
loop-i-preserved c = below_more _ _ c.loop-i.invariant (sym c.word.ensures ∙ c.if-word-ne0.false)

pub returns : goal.returns
returns c =
    record {
      yes = λ _. map-empty (drop c.args.slots c.args.arena.now) c.args.n (λ k l. c.loop-i.invariant k (omega arith));
      no = λ e. absurd (true≢false e);
    }
