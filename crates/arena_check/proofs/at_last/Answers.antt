-- Nothing is counted at another level. Assumes nothing.
use mathlib.Core.Path.{◌≡◌, sym, ◌∙◌}
use mathlib.Core.Logic.{◌≢◌}
use mathlib.Core.Bool.{cond}
use Prim.Native.Nat.{ℕ}
use native.Mathlib.Omega.{arith}
use lib.Dec.{eqb}
use borrow.Author.Tests.{eq-eqb, ne_eqb}
use Rattle.arena.specs.Arena.{nodes_in}
use Rattle.arena_check.specs.Checks.{set_bits}
use Rattle.arena_check.proofs.at_last.Goals as goal

module _ (level b k at : ℕ) (is : level ≡ at) where
  elsewhere : level ≢ b → 0 ≡ cond (eqb at b) k 0
  elsewhere h = rw (ne_eqb at b (λ e. h (is ∙ e)))

  there : level ≡ b → k ≡ cond (eqb at b) k 0
  there h = rw (eq-eqb at b (sym is ∙ h))

pub returns-then-level1-b : goal.returns-then-level1-b
returns-then-level1-b c =
    let a = c.args in
    let v = nodes_in a.slots a.arena.now in
    elsewhere a.level1 a.b (set_bits v a.n) (v.level1 a.n) c.requires.level1_value (λ e. omega (arith, c.if-level1-b.true))

pub returns : goal.returns
returns c =
    let a = c.args in
    let v = nodes_in a.slots a.arena.now in
    c.set_bits.ensures ∙ there a.level1 a.b (set_bits v a.n) (v.level1 a.n) c.requires.level1_value (omega (arith, c.if-level1-b.false))
