-- Each good trie has a root of its own, which names its slot: there are as many roots as tries exactly when every root is that of a trie. Assumes nothing.
use Prim.Native.Nat.{ℕ, ◌+◌, ◌<◌, ◌≤◌}
use mathlib.Core.Path.{◌≡◌, refl, sym, ap, ◌∙◌, subst}
use mathlib.Core.Logic.{◌≢◌}
use mathlib.Core.Bool.{Bool, true, false}
use native.Mathlib.Omega.{arith}
use native.Mathlib.Numerals.{add-one}
use lib.Dec.{eqb}
use borrow.Author.Count.{below_more}
use borrow.Author.Tests.{eqb-true, eq-eqb, ne_eqb}
use Rattle.lists.specs.Lists.{one}
use Rattle.lists.specs.Sums.{sum}
use Rattle.lists.proofs.Counts.{sum-few}
use Rattle.lists.proofs.Matching.{Lands, Met, at_most, all-met, sum_step}
use Rattle.region.specs.Areas.{Numbers}
use Rattle.region.specs.Seen.{Seen}
use Rattle.region.specs.WellFormed.{Trie}
use Rattle.region.specs.Linked.{Rooted}
use Rattle.arena_check.specs.Checks.{roots_in}
use Rattle.inspect_tries.specs.AllTries.{AllTries}

-- 1 where x is k, else 0
abbrev mark : ℕ → ℕ → ℕ
mark x k = one (eqb x k)

mark-bit : (x k : ℕ) → mark x k < 2
mark-bit x k = few (eqb x k)
  where
    few : (t : Bool) → one t < 2
    few true = omega arith
    few false = omega arith

mark-is : (x k : ℕ) → x ≡ k → mark x k ≡ 1
mark-is x k e = ap one (eq-eqb x k e)

mark-not : (x k : ℕ) → x ≢ k → mark x k ≡ 0
mark-not x k n = ap one (ne_eqb x k n)

marked : (x k : ℕ) → mark x k ≡ 1 → x ≡ k
marked x k e = eqb-true x k (set (eqb x k) e)
  where
    set : (t : Bool) → one t ≡ 1 → t ≡ true
    set true e = refl
    set false e = absurd (omega arith)

module _ (g : Numbers) (v : Seen) where
  -- 1 for a slot of kind 2, else 0
  abbrev is_trie : ℕ → ℕ
  is_trie c = mark (v.kind c) 2

  -- 1 for a root, else 0
  abbrev is_root : ℕ → ℕ
  is_root n = mark (v.node.level1 n) 1

  -- the first c slots are passed: their tries are good, and so many
  pub record Passed (c tries : ℕ) : Type 0 where
    pub in-range : c ≤ g.C
    pub good : (d : ℕ) → d < c → v.kind d ≡ 2 → Trie g v d
    pub tries-are : tries ≡ sum is_trie c

  pub pass-start : Passed 0 0
  unfolding sum
  pass-start = record { in-range = omega arith; good = λ d h. absurd (omega arith); tries-are = refl }

  module _ {c tries : ℕ} (p : Passed c tries) where
    pub tries-few : tries ≤ c
    tries-few = omega (arith, p.tries-are, sum-few is_trie c (λ d. omega (arith, mark-bit (v.kind d) 2)))

    sum-next : sum is_trie (c + 1) ≡ is_trie c + tries
    sum-next = omega (arith, ap (sum is_trie) (add-one c), sum_step is_trie c, p.tries-are)

    pub pass-trie : {more : ℕ} → c < g.C → v.kind c ≡ 2 → Trie g v c → more ≡ tries + 1 → Passed (c + 1) more
    pass-trie h k t e = record { in-range = omega arith; good = below_more _ _ p.good (λ _. t); tries-are = omega (arith, sum-next, mark-is (v.kind c) 2 k) }

    pub pass-other : {same : ℕ} → c < g.C → v.kind c ≢ 2 → same ≡ tries → Passed (c + 1) same
    pass-other h k e = record { in-range = omega arith; good = below_more _ _ p.good (λ e. absurd (k e)); tries-are = omega (arith, sum-next, mark-not (v.kind c) 2 k) }

    pub pass-end : g.C ≤ c → Passed g.C tries
    pass-end h = let e : c ≡ g.C = omega (arith, p.in-range) in subst (λ (i : ℕ). Passed i tries) e p

  -- a trie goes to its root, and from there word 5 leads back
  module _ (good : (c : ℕ) → c < g.C → v.kind c ≡ 2 → Trie g v c) where
    lands : (c : ℕ) → c < g.C → is_trie c ≡ 1 → Lands is_root v.link v.node.parent g.N c
    lands c h e =
        let t : Trie g v c = good c h (marked (v.kind c) 2 e) in
        record { small = t.root-in-range; marked = mark-is (v.node.level1 (v.link c)) 1 t.root-level; home = t.root-back }

    all-rooted : sum is_trie g.C ≡ sum is_root g.N → (n : ℕ) → n < g.N → v.node.level1 n ≡ 1 → Rooted g v n
    all-rooted e n h l =
        let m : Met is_trie v.link v.node.parent g.C n = all-met is_trie is_root v.link v.node.parent g.C g.N (λ c. mark-bit (v.kind c) 2) lands e n h (mark-is (v.node.level1 n) 1 l) in
        record { in-range = m.small; is-trie = marked (v.kind (v.node.parent n)) 2 m.marked; is-root = m.there }

    as_many : ((n : ℕ) → n < g.N → v.node.level1 n ≡ 1 → Rooted g v n) → sum is_trie g.C ≡ sum is_root g.N
    as_many rooted = omega (
      arith,
      at_most is_trie is_root v.link v.node.parent g.C g.N (λ c. mark-bit (v.kind c) 2) lands,
      at_most is_root is_trie v.node.parent v.link g.N g.C (λ n. mark-bit (v.node.level1 n) 1) back,
    )
      where
        back : (n : ℕ) → n < g.N → is_root n ≡ 1 → Lands is_trie v.node.parent v.link g.C n
        back n h e =
            let r : Rooted g v n = rooted n h (marked (v.node.level1 n) 1 e) in
            record { small = r.in-range; marked = mark-is (v.kind (v.node.parent n)) 2 r.is-trie; home = r.is-root }

  -- once all are passed, the counts decide
  module _ {tries roots : ℕ} (p : Passed g.C tries) (are : roots ≡ roots_in v.node g.N) where
    pub matched : tries ≡ roots → AllTries g v
    matched e = (p.good, all-rooted p.good (sym p.tries-are ∙ e ∙ are))

    pub matching : AllTries g v → tries ≡ roots
    matching a = p.tries-are ∙ as_many p.good a.1 ∙ sym are
