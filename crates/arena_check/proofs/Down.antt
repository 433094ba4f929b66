-- Where every node below a root is named by its parent, every set bit above the last level has its child exactly if these bits are as many as these nodes. Assumes nothing.
use Prim.Native.Nat.{ℕ, suc, ◌+◌, ◌-◌, ◌*◌, ◌/◌, ◌%◌, ◌≤◌, ◌<◌}
use mathlib.Core.Path.{◌≡◌, sym, ap, ap₂, ◌∙◌, subst}
use mathlib.Core.Bool.{cond}
use native.Mathlib.Omega.{arith}
use lib.Dec.{leb, ltb}
use borrow.Author.Tests.{le-leb, lt-ltb, leb-true, ltb-true}
use Rattle.lists.specs.Sums.{sum}
use Rattle.lists.proofs.Laws.{and_both, both-and, by-test}
use Rattle.lists.proofs.Sums.{sum_same, sum-zero}
use Rattle.region.specs.Nodes.{Nodes}
use Rattle.region.specs.WellFormed.{Child, Children}
use Rattle.region.specs.Linked.{Above}
use Rattle.arena_check.specs.Checks.{below_root, inner, branches}
use Rattle.lists.proofs.Matching.{Lands, Met, at_most, all-met, sum_rows}

module _ (v : Nodes) (N b : ℕ) (bits : (n x : ℕ) → v.bit n x < 2) where
  -- bit x of node n, if it wants a child
  abbrev wants : ℕ → ℕ → ℕ
  wants n x = cond (inner v b n) (v.bit n x) 0

  -- the places are numbered: 256 for each node
  abbrev wants_at : ℕ → ℕ
  wants_at k = wants (k / 256) (k % 256)

  abbrev to : ℕ → ℕ
  to m = v.parent m * 256 + v.byte m

  abbrev back : ℕ → ℕ
  back k = v.child (k / 256) (k % 256)

  wants-bits : (k : ℕ) → wants_at k < 2
  wants-bits k = by-test (inner v b (k / 256)) (λ e. rw e (bits (k / 256) (k % 256))) (λ e. rw e (omega arith))

  wants-set : (n x l : ℕ) → v.level1 n ≡ suc l → suc l < b → v.bit n x ≡ 1 → wants n x ≡ 1
  wants-set n x l e h s = rw (both-and (leb 1 (v.level1 n)) (ltb (v.level1 n) b) (le-leb 1 (v.level1 n) (omega arith)) (lt-ltb (v.level1 n) b (omega arith))) s

  -- what wants a child
  record Wants (n x : ℕ) : Type 0 where
    pub level : ℕ
    pub is : v.level1 n ≡ suc level
    pub high : suc level < b
    pub is_set : v.bit n x ≡ 1

  wanted : (n x : ℕ) → wants n x ≡ 1 → Wants n x
  wanted n x w = by-test (inner v b n)
      (λ e. let t = and_both (leb 1 (v.level1 n)) (ltb (v.level1 n) b) e in
      let lo : 1 ≤ v.level1 n = leb-true 1 (v.level1 n) t.0 in
      let hi : v.level1 n < b = ltb-true (v.level1 n) b t.1 in
      record { level = v.level1 n - 1; is = omega arith; high = omega arith; is_set = rw e at w })
      (λ e. let z : ◌≡◌ {A = ℕ} 0 1 = rw e at w in absurd (omega arith))

  sum-branches : sum wants_at (N * 256) ≡ sum (branches v b) N
  sum-branches = sum_rows wants N ∙ sum_same (branches v b) (λ n. sum (wants n) 256) N (λ n l. by-test (inner v b n)
      (λ e. sum_same (v.bit n) (wants n) 256 (λ x h. rw e) ∙ rw e)
      (λ e. sum-zero (wants n) 256 (λ x h. rw e) ∙ rw e))

  below-bits : (m : ℕ) → below_root v m < 2
  below-bits m = omega arith

  module _ (levels : (n : ℕ) → n < N → v.level1 n ≤ b) (up : (l n : ℕ) → n < N → v.level1 n ≡ suc (suc l) → Above v N l n) where
    above : (m : ℕ) → m < N → below_root v m ≡ 1 → Above v N (v.level1 m - 2) m
    above m h e = up (v.level1 m - 2) m h (omega arith)

    lands : (m : ℕ) → m < N → below_root v m ≡ 1 → Lands wants_at to back (N * 256) m
    lands m h e =
        let a : Above v N (v.level1 m - 2) m = above m h e in
        let r : v.parent m < N = a.in-range in
        let y : v.byte m < 256 = a.byte in
        let p : to m / 256 ≡ v.parent m = omega arith in
        let x : to m % 256 ≡ v.byte m = omega arith in
        record {
          small = omega arith;
          marked = ap₂ wants p x ∙ wants-set (v.parent m) (v.byte m) (v.level1 m - 2) a.level (omega (arith, levels m h)) a.is_set;
          home = ap₂ v.child p x ∙ a.is-child;
        }

    pub children : sum (below_root v) N ≡ sum (branches v b) N → Children v N b
    children e l n x h el hl hx s =
        let p : (n * 256 + x) / 256 ≡ n = omega arith in
        let q : (n * 256 + x) % 256 ≡ x = omega arith in
        let w : Met (below_root v) to back N (n * 256 + x) =
        all-met (below_root v) wants_at to back N (N * 256) below-bits lands (e ∙ sym sum-branches) (n * 256 + x) (omega arith)
        (ap₂ wants p q ∙ wants-set n x l el hl s) in
        let c : back (n * 256 + x) ≡ v.child n x = ap₂ v.child p q in
        named (v.child n x) (subst (λ (m : ℕ). m < N) c w.small) (ap (below_root v) (sym c) ∙ w.marked) (ap to (sym c) ∙ w.there)
      where
        named : (m : ℕ) → m < N → below_root v m ≡ 1 → to m ≡ n * 256 + x → Child v N l n x m
        named m r f t =
            let a : Above v N (v.level1 m - 2) m = above m r f in
            let y : v.byte m < 256 = a.byte in
            let p : v.parent m ≡ n = omega arith in
            let k : v.level1 n ≡ suc (v.level1 m - 2) = ap v.level1 (sym p) ∙ a.level in
            record { in-range = r; level = omega arith; parent = p; byte = omega arith }

    pub balanced : Children v N b → sum (below_root v) N ≡ sum (branches v b) N
    balanced down = omega (arith, at_most (below_root v) wants_at to back N (N * 256) below-bits lands, at_most wants_at (below_root v) back to (N * 256) N wants-bits hung, sum-branches)
      where
        hung : (k : ℕ) → k < N * 256 → wants_at k ≡ 1 → Lands (below_root v) back to N k
        hung k h e =
            let w : Wants (k / 256) (k % 256) = wanted (k / 256) (k % 256) e in
            let c : Child v N w.level (k / 256) (k % 256) (back k) = down w.level (k / 256) (k % 256) (omega arith) w.is w.high (omega arith) w.is_set in
            record { small = c.in-range; marked = omega (arith, c.level); home = omega (arith, c.parent, c.byte) }
