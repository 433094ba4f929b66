-- The pass over the nodes: what holds once some of them are tallied or passed, at the start, by one more and at the end. Assumes nothing.
use Prim.Native.Nat.{ℕ, zero, suc, ◌+◌, ◌-◌, ◌*◌, ◌≤◌, ◌<◌, min}
use mathlib.Core.Path.{◌≡◌, refl, sym, ap, ◌∙◌, subst}
use mathlib.Core.Bool.{Bool, true, false, cond, not}
use mathlib.Core.List.{List}
use native.Mathlib.Numerals.{add-one}
use native.Mathlib.Omega.{arith}
use lib.Dec.{eqb}
use lib.ListN.{length}
use mir.Val.{bool_byte}
use borrow.Author.Count.{below_more}
use borrow.Author.Tests.{eqb-true, eqb-false}
use Rattle.lists.specs.Lists.{one}
use Rattle.lists.specs.Sums.{sum}
use Rattle.lists.proofs.Laws.{by-test}
use Rattle.lists.proofs.Sums.{sum_same, sum-add}
use Rattle.lists.proofs.Counts.{sum-few}
use Rattle.region.specs.Geometry.{node_words}
use Rattle.region.specs.Nodes.{Nodes}
use Rattle.region.specs.WellFormed.{nodes_used}
use Rattle.arena.specs.Arena.{Arena, nodes_in, spare_in}
use Rattle.arena_check.specs.Checks.{OwnOk, Hangs, Tallied, below_root, inner, branches, set_bits, roots_in}
use Rattle.lists.proofs.Matching.{sum_step}
use Rattle.arena_check.proofs.Maps.{set-few}
use Rattle.arena_check.proofs.Both.{arena-of, even-of}

sum-most : (f : ℕ → ℕ) (n : ℕ) → ((i : ℕ) → f i ≤ 256) → sum f n ≤ 256 * n
unfolding sum
sum-most f zero h = omega arith
sum-most f (suc n) h = let i : sum f n ≤ 256 * n = sum-most f n h in omega (arith, h n)

sum-next : (f : ℕ → ℕ) (n s t : ℕ) → s ≡ sum f n → t ≡ f n → s + t ≡ sum f (n + 1)
sum-next f n s t e h = omega (arith, ap (sum f) (add-one n), sum_step f n)

pub root-few : (x : ℕ) → one (eqb x 1) ≤ 1
root-few x = by-test (eqb x 1) (λ e. rw e (omega arith)) (λ e. rw e (omega arith))

-- a node in use is a root or below one
root-or-below : (x : ℕ) → one (eqb x 1) + min 1 (x - 1) ≡ min 1 x
root-or-below x = by-test (eqb x 1)
    (λ e. let z : x ≡ 1 = eqb-true x 1 e in rw e (omega arith))
    (λ e. let z : x ≡ 1 → ⊥ = eqb-false x 1 e in rw e (omega arith))

-- what the code adds: a test, as 0 or 1
pub one-test : (t : Bool) → bool_byte t ≡ one t
one-test true = refl
one-test false = refl

pub used-test : (x : ℕ) → bool_byte (not (eqb x 0)) ≡ min 1 x
used-test x = by-test (eqb x 0)
    (λ e. let z : x ≡ 0 = eqb-true x 0 e in rw e (omega arith))
    (λ e. let z : x ≡ 0 → ⊥ = eqb-false x 0 e in rw e (omega arith))

-- how many are in use, counted on
module _ (v : Nodes) where
  pub used-next : (n s t : ℕ) → s ≡ nodes_used v n → t ≡ min 1 (v.level1 n) → s + t ≡ nodes_used v (n + 1)
  used-next = sum-next (λ m. min 1 (v.level1 m))

  pub used-few : (n : ℕ) → nodes_used v n ≤ n
  used-few n = sum-few (λ m. min 1 (v.level1 m)) n (λ m. omega arith)

  roots-and-below : (n : ℕ) → roots_in v n + sum (below_root v) n ≡ nodes_used v n
  roots-and-below n = sym (sum-add (λ m. one (eqb (v.level1 m) 1)) (below_root v) n)
      ∙ sum_same (λ m. min 1 (v.level1 m)) (λ m. one (eqb (v.level1 m) 1) + below_root v m) n (λ m h. root-or-below (v.level1 m))

module _ (v : Nodes) (b : ℕ) (h : (n x : ℕ) → v.bit n x < 2) where
  pub branch-few : (n : ℕ) → branches v b n ≤ 256
  branch-few n = by-test (inner v b n) (λ e. rw e (set-few v n (h n))) (λ e. rw e (omega arith))

  pub last-few : (n : ℕ) → cond (eqb (v.level1 n) b) (set_bits v n) 0 ≤ 256
  last-few n = by-test (eqb (v.level1 n) b) (λ e. rw e (set-few v n (h n))) (λ e. rw e (omega arith))

module _ (N b free : ℕ) (spare : ℕ → ℕ) (v : Nodes) where
  pub tally-start : Tallied N b free spare v 0 0 0 0
  unfolding sum
  tally-start = record { own = λ m h. absurd (omega arith); roots-is = refl; bits_is = refl; last-is = refl }

  module _ {n roots bits last : ℕ} (p : Tallied N b free spare v n roots bits last) where
    pub tally-next : (x y z : ℕ) → OwnOk N b free spare v n → x ≡ one (eqb (v.level1 n) 1) → y ≡ branches v b n → z ≡ cond (eqb (v.level1 n) b) (set_bits v n) 0
        → Tallied N b free spare v (n + 1) (roots + x) (bits + y) (last + z)
    tally-next x y z k ex ey ez = record {
      own = below_more _ _ p.own k;
      roots-is = sum-next (λ m. one (eqb (v.level1 m) 1)) n roots x p.roots-is ex;
      bits_is = sum-next (branches v b) n bits y p.bits_is ey;
      last-is = sum-next (λ m. cond (eqb (v.level1 m) b) (set_bits v m) 0) n last z p.last-is ez;
    }

    pub tally-to : (m : ℕ) → n ≡ m → Tallied N b free spare v m roots bits last
    tally-to m e = subst (λ (i : ℕ). Tallied N b free spare v i roots bits last) e p

    pub roots_few : roots ≤ n
    roots_few = omega (arith, p.roots-is, sum-few (λ m. one (eqb (v.level1 m) 1)) n (λ m. root-few (v.level1 m)))

    module _ (h : (m x : ℕ) → v.bit m x < 2) where
      pub bits-few : bits ≤ 256 * n
      bits-few = omega (arith, p.bits_is, sum-most (branches v b) n (branch-few v b h))

      pub lasts-few : last ≤ 256 * n
      lasts-few = omega (arith, p.last-is, sum-most (λ m. cond (eqb (v.level1 m) b) (set_bits v m) 0) n (last-few v b h))

-- n nodes are passed: they are tallied, their parents name them, and those in use are counted
pub record Passed (N b free : ℕ) (spare : ℕ → ℕ) (v : Nodes) (n taken roots bits last : ℕ) : Type 0 where
  pub in-range : n ≤ N
  pub tally : Tallied N b free spare v n roots bits last
  pub hung : (m : ℕ) → m < n → Hangs N v m
  pub taken_is : taken ≡ nodes_used v n

module _ (N b free : ℕ) (spare : ℕ → ℕ) (v : Nodes) where
  pub pass-start : Passed N b free spare v 0 0 0 0 0
  unfolding sum
  pass-start = record { in-range = omega arith; tally = tally-start N b free spare v; hung = λ m h. absurd (omega arith); taken_is = refl }

  pub pass-end : {n taken roots bits last : ℕ} → Passed N b free spare v n taken roots bits last → N ≤ n → Passed N b free spare v N taken roots bits last
  pass-end {n} {taken} {roots} {bits} {last} p h = let e : n ≡ N = omega (arith, p.in-range) in subst (λ (i : ℕ). Passed N b free spare v i taken roots bits last) e p

-- once all are passed, the counts decide
module _ (N b used : ℕ) (l : List ℕ) {taken roots bits last : ℕ} (p : Passed N b (N - used) (spare_in l) (nodes_in N l) N taken roots bits last) where
  pub miscounted : (taken ≡ used → ⊥) → Arena N b used l → ⊥
  miscounted h A = h (p.taken_is ∙ A.used-true)

  pub uneven : (roots + bits ≡ used → ⊥) → Arena N b used l → ⊥
  uneven h A = h (omega (arith, p.tally.roots-is, p.tally.bits_is, even-of N b used l A, roots-and-below (nodes_in N l) N, A.used-true))

  pub all_true : length l ≡ N + node_words * N → used ≤ N → taken ≡ used → roots + bits ≡ used → Arena N b used l
  all_true long small e even = arena-of N b used l long small p.tally.own p.hung (sym p.taken_is ∙ e)
      (omega (arith, p.tally.roots-is, p.tally.bits_is, p.taken_is, roots-and-below (nodes_in N l) N))
