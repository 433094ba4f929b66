-- The free stack as the code finds it: free slots and places lead to each other, so if they are as many none is left over. Assumes nothing.
use Prim.Native.Nat.{ℕ, zero, suc, ◌+◌, ◌-◌, ◌<◌, ◌≤◌, min}
use mathlib.Core.Path.{◌≡◌, refl, sym, ap, ◌∙◌}
use native.Mathlib.Omega.{arith}
use native.Mathlib.Numerals.{add-one}
use mir.Val.{bool_byte}
use lib.Dec.{eqb}
use borrow.Author.Count.{below_more}
use borrow.Author.Tests.{eqb-true, eqb-false, ne_eqb}
use Rattle.lists.specs.Sums.{sum}
use Rattle.region.specs.Areas.{Numbers}
use Rattle.region.specs.Seen.{Seen}
use Rattle.region.specs.WellFormed.{FreeSlot, Stacked}
use Rattle.inspect_slots.specs.Slots.{FreeStack}
use Rattle.lists.proofs.Answers.{Tells, told}
use Rattle.lists.proofs.Matching.{Met, at_most, all-met, sum_step, sum_ones}

-- a kind that is 0 counts one
pub one-if-free : (kind : ℕ) → bool_byte (eqb kind 0) ≡ 1 - min 1 kind
one-if-free zero = refl
one-if-free (suc kind) = rw (ne_eqb (suc kind) 0 (λ z. omega arith)) (omega arith)

-- 1 for a free slot, else 0
abbrev pub is_free : Seen → ℕ → ℕ
is_free v c = 1 - min 1 (v.kind c)

-- the slots below c are passed: n of them free, each stacked
pub record Free (g : Numbers) (v : Seen) (c n : ℕ) : Type 0 where
  pub few : n ≤ c
  pub count : n ≡ sum (is_free v) c
  pub stacked : (d : ℕ) → d < c → v.kind d ≡ 0 → Stacked g v d

module _ (g : Numbers) (v : Seen) where
  pub free-start : Free g v 0 0
  unfolding sum
  free-start = record { few = omega arith; count = refl; stacked = λ d l. absurd (omega arith) }

  pub free-next : {c n : ℕ} → Free g v c n → (x : ℕ) → (v.kind c ≡ 0 → Stacked g v c) → x ≡ is_free v c → Free g v (c + 1) (n + x)
  free-next {c} {n} f x h e = record {
    few = omega (arith, f.few);
    count = omega (arith, f.count, ap (sum (is_free v)) (add-one c), sum_step (is_free v) c);
    stacked = below_more _ _ f.stacked h;
  }

  -- as many free slots as places: each place is met
  places-met : sum (is_free v) g.C ≡ g.C - g.k → ((c : ℕ) → c < g.C → v.kind c ≡ 0 → Stacked g v c) → (i : ℕ) → i < g.C - g.k → FreeSlot g v i
  places-met e st i h =
      let m : Met (is_free v) v.link v.free g.C i =
      all-met (is_free v) (λ _. 1) v.link v.free g.C (g.C - g.k) (λ c. omega arith)
      (λ c l o. let s : Stacked g v c = st c l (omega arith) in record { small = s.in-range; marked = refl; home = s.there })
      (e ∙ sym (sum_ones (g.C - g.k))) i h refl in
      record { in-range = m.small; is_free = omega (arith, m.marked); place = m.there }

  -- and the other way: neither side has more than the other
  as_many : FreeStack g v → sum (is_free v) g.C ≡ g.C - g.k
  as_many s =
      let le : sum (is_free v) g.C ≤ sum (λ _. 1) (g.C - g.k) =
      at_most (is_free v) (λ _. 1) v.link v.free g.C (g.C - g.k) (λ c. omega arith)
      (λ c l o. let q : Stacked g v c = s.stacked c l (omega arith) in record { small = q.in-range; marked = refl; home = q.there }) in
      let ge : sum (λ _. 1) (g.C - g.k) ≤ sum (is_free v) g.C =
      at_most (λ _. 1) (is_free v) v.free v.link (g.C - g.k) g.C (λ i. omega arith)
      (λ i l o. let q : FreeSlot g v i = s.free-slots i l in record { small = q.in-range; marked = omega (arith, q.is_free); home = q.place }) in
      omega (arith, sum_ones (g.C - g.k))

  pub free-end : {c n : ℕ} → Free g v c n → c ≡ g.C → Tells (eqb n (g.C - g.k)) (FreeStack g v)
  free-end {c} {n} f e = told (eqb n (g.C - g.k)) (eqb-true n (g.C - g.k), eqb-false n (g.C - g.k))
      (λ q. let st : (d : ℕ) → d < g.C → v.kind d ≡ 0 → Stacked g v d = λ d l. f.stacked d (omega arith) in
      record { free-slots = places-met (sym all ∙ q) st; stacked = st })
      (λ s. all ∙ as_many s)
    where
      all : n ≡ sum (is_free v) g.C
      all = f.count ∙ ap (sum (is_free v)) e
