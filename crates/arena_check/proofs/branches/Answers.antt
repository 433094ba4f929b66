-- Nothing wants a child in a free node or at the last level. Assumes nothing.
use mathlib.Core.Path.{◌≡◌, ◌∙◌}
use mathlib.Core.Logic.{◌≢◌}
use mathlib.Core.Bool.{true, false}
use Prim.Native.Nat.{ℕ, ◌≤◌, ◌<◌}
use native.Mathlib.Omega.{arith}
use lib.Dec.{leb, ltb}
use borrow.Author.Tests.{le-leb, lt-ltb, ltb-true}
use Rattle.lists.proofs.Laws.{and_both, both-and, not-true-false}
use Rattle.region.specs.Nodes.{Nodes}
use Rattle.arena.specs.Arena.{nodes_in}
use Rattle.arena_check.specs.Checks.{inner, set_bits, branches}
use Rattle.arena_check.proofs.branches.Goals as goal

module _ (v : Nodes) (b n level : ℕ) (is : level ≡ v.level1 n) where
  last : b ≤ level → 0 ≡ branches v b n
  last h =
      let e : inner v b n ≡ false = not-true-false (inner v b n) (λ t. omega (arith, ltb-true (v.level1 n) b (and_both (leb 1 (v.level1 n)) (ltb (v.level1 n) b) t).1)) in
      rw e

  first : level ≢ 0 → level < b → set_bits v n ≡ branches v b n
  first h k =
      let e : inner v b n ≡ true = both-and (leb 1 (v.level1 n)) (ltb (v.level1 n) b) (le-leb 1 (v.level1 n) (omega arith)) (lt-ltb (v.level1 n) b (omega arith)) in
      rw e

pub returns-then-level1-b : goal.returns-then-level1-b
returns-then-level1-b c =
    let a = c.args in
    last (nodes_in a.slots a.arena.now) a.b a.n a.level1 c.requires.level1_value (omega (arith, c.if-level1-b.true))

pub returns : goal.returns
returns c =
    let a = c.args in
    c.set_bits.ensures ∙ first (nodes_in a.slots a.arena.now) a.b a.n a.level1 c.requires.level1_value c.if-level1-eq0.false (omega (arith, c.if-level1-b.false))
