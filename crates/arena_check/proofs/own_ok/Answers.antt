-- A node is free, a root or below one, and each kind has its own tests. Assumes nothing.
use mathlib.Core.Path.{sym, ◌∙◌}
use native.Mathlib.Omega.{arith}
use borrow.Author.Tests.{leb-true}
use Rattle.arena_check.proofs.own_ok.Goals as goal
use Rattle.arena_check.proofs.own_ok.Goals.{then-level1-b, else-level1-b}

pub returns-then-level1-eq1-clause-yes : goal.returns-then-level1-eq1-clause-yes
returns-then-level1-eq1-clause-yes c = λ e. elim c.if-level1-b.branch [
  | then-level1-b w ↦ record {
    level = omega (arith, c.requires.level1_value);
    stacked = λ z. absurd (omega (arith, c.requires.level1_value));
    non-empty = λ _. w.non_empty.ensures.yes (sym w.value-is ∙ c.if-non_empty.true);
    back = λ k. absurd (omega (arith, c.requires.level1_value));
  }
  | else-level1-b w ↦ absurd (omega (arith, leb-true c.args.level1 _ (sym w.value-is ∙ c.if-non_empty.true)))
]
