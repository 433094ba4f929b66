-- The parent's words are read at the back link, which is in range. Assumes nothing.
use mathlib.Core.Path.{◌≡◌, sym, ap, ap₂, ◌∙◌}
use mathlib.Core.Bool.{true, false≢true}
use Prim.Native.Nat.{ℕ, suc, ◌-◌, ◌≤◌, ◌<◌}
use native.Mathlib.Omega.{arith}
use lib.Dec.{eqb}
use borrow.Author.Tests.{eqb-true, eqb-false, eq-eqb}
use Rattle.region.specs.Nodes.{Nodes}
use Rattle.region.specs.Linked.{Above}
use Rattle.arena.specs.Arena.{nodes_in}
use Rattle.arena_check.specs.Checks.{Hangs}
use Rattle.arena_check.proofs.hangs.Goals as goal
use Rattle.arena_check.proofs.hangs.Goals.{then-level1, else-level1}

-- where the parent's words name the node, it hangs on it
hangs-on : (N : ℕ) (v : Nodes) (n level p x : ℕ) → level ≡ v.level1 n → p ≡ v.parent n → x ≡ v.byte n → v.parent n < N → v.byte n < 256
    → v.level1 p ≡ level - 1 → v.bit p x ≡ 1 → v.child p x ≡ n → Hangs N v n
hangs-on N v n level p x is-level is byte range small above set named = λ l q.
    let z : level - 1 ≡ suc l = omega arith in
    record {
      in-range = range;
      level = ap v.level1 (sym is) ∙ above ∙ z;
      byte = small;
      is_set = ap₂ v.bit (sym is) (sym byte) ∙ set;
      is-child = ap₂ v.child (sym is) (sym byte) ∙ named;
    }

-- what the tests come to, where the parent p names the node by byte x
module _ (N : ℕ) (v : Nodes) (n level p x : ℕ) (is-level : level ≡ v.level1 n) (low : 2 ≤ level) (is : p ≡ v.parent n) (byte : x ≡ v.byte n) (hung : Hangs N v n) where
  named : Above v N (level - 2) n
  named = hung (level - 2) (omega arith)

  level-is : v.level1 p ≡ level - 1
  level-is = let z : suc (level - 2) ≡ level - 1 = omega arith in ap v.level1 is ∙ named.level ∙ z

  is_set : eqb (v.bit p x) 1 ≡ true
  is_set = eq-eqb (v.bit p x) 1 (ap₂ v.bit is byte ∙ named.is_set)

  is-child : v.child p x ≡ n
  is-child = ap₂ v.child is byte ∙ named.is-child

pub returns-then-test-clause-yes : goal.returns-then-test-clause-yes
returns-then-test-clause-yes c =
    let a = c.args in
    let v = nodes_in a.slots a.arena.now in
    let low : 2 ≤ v.level1 a.n = omega (arith, c.level1-level1.ensures, c.if-level1-lt2.false) in
    let k = c.requires.back_in_range low in
    λ e. elim c.if-level1.branch [
      | then-level1 w ↦
          hangs-on a.slots v a.n c.level1-level1.result c.parent-p.result c.byte-x.result c.level1-level1.ensures c.parent-p.ensures c.byte-x.ensures
          k.0 k.1 (omega (arith, c.level1.ensures, w.if-level1.true))
          (eqb-true _ _ (sym w.test.ensures ∙ sym w.value-is ∙ c.if-test.true)) (omega (arith, c.child.ensures, eqb-true _ _ e))
      | else-level1 w ↦ absurd (w.if-level1.false (eqb-true _ _ (sym w.value-is ∙ c.if-test.true)))
    ]

pub returns-then-test-clause-no : goal.returns-then-test-clause-no
returns-then-test-clause-no c =
    let a = c.args in
    λ e k. eqb-false c.child.result a.n e
    (c.child.ensures ∙ is-child a.slots (nodes_in a.slots a.arena.now) a.n c.level1-level1.result c.parent-p.result c.byte-x.result c.level1-level1.ensures (omega arith) c.parent-p.ensures c.byte-x.ensures k)

pub returns-else-test-clause-no : goal.returns-else-test-clause-no
returns-else-test-clause-no c =
    let a = c.args in
    elim c.if-level1.branch [
      | then-level1 w ↦
          λ e k. false≢true (sym e ∙ w.value-is ∙ w.test.ensures
          ∙ is_set a.slots (nodes_in a.slots a.arena.now) a.n c.level1-level1.result c.parent-p.result c.byte-x.result c.level1-level1.ensures (omega arith) c.parent-p.ensures c.byte-x.ensures k)
      | else-level1 w ↦
          λ e k. w.if-level1.false (c.level1.ensures
          ∙ level-is a.slots (nodes_in a.slots a.arena.now) a.n c.level1-level1.result c.parent-p.result c.byte-x.result c.level1-level1.ensures (omega arith) c.parent-p.ensures c.byte-x.ensures k)
    ]
