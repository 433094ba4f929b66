-- The numbers below M that f marks go each to a place of its own among those below K that g marks: they are at most as many, and if as many, every place is met.
-- The idea: in the matrix of who goes where, a row's sum is f and a column's at most g. Assumes nothing.
use Prim.Native.Nat.{ℕ, zero, suc, ◌+◌, ◌*◌, ◌/◌, ◌%◌, ◌≤◌, ◌<◌}
use mathlib.Core.Path.{◌≡◌, refl, sym, ap, ◌∙◌, subst}
use mathlib.Core.Logic.{◌≢◌}
use mathlib.Core.Bool.{cond}
use native.Mathlib.Omega.{arith}
use native.Mathlib.Nat.{add-suc}
use native.Mathlib.Decide.{ℕ_discrete, dec_lt}
use lib.Dec.{eqb}
use borrow.Author.Tests.{eq-eqb, ne_eqb}
use Rattle.lists.specs.Sums.{sum}
use Rattle.lists.proofs.Laws.{below-le}
use Rattle.lists.proofs.Sums.{sum_same, sum-zero, sum-single, sum-swap}

pub sum_step : (f : ℕ → ℕ) (n : ℕ) → sum f (suc n) ≡ f n + sum f n
unfolding sum
sum_step f n = refl

-- where c is at most g at each place and they sum to the same, they are the same
pub sum-tight : (c g : ℕ → ℕ) (n : ℕ) → ((k : ℕ) → c k ≤ g k) → sum c n ≡ sum g n → (k : ℕ) → k < n → c k ≡ g k
unfolding sum
sum-tight c g zero h e k l = absurd (omega arith)
sum-tight c g (suc n) h e k l =
    let a : c n ≤ g n = h n in
    let t : sum c n ≤ sum g n = below-le c g n h in
    pick (ℕ_discrete k n) (sum-tight c g n h (omega arith) k) (omega arith)
  where
    pick : Dec (k ≡ n) → (k < n → c k ≡ g k) → c n ≡ g n → c k ≡ g k
    pick (yes q) ih z = ap c q ∙ z ∙ ap g (sym q)
    pick (no q) ih z = ih (omega arith)

-- n ones
pub sum_ones : (n : ℕ) → sum (λ i. 1) n ≡ n
unfolding sum
sum_ones zero = refl
sum_ones (suc n) = let ih : sum (λ i. 1) n ≡ n = sum_ones n in omega arith

-- m goes to a marked place below K, from which the way back leads to m
pub record Lands (g to back : ℕ → ℕ) (K m : ℕ) : Type 0 where
  pub small : to m < K
  pub marked : g (to m) ≡ 1
  pub home : back (to m) ≡ m

-- the place k is met, by a marked number below M
pub record Met (f to back : ℕ → ℕ) (M k : ℕ) : Type 0 where
  pub small : back k < M
  pub marked : f (back k) ≡ 1
  pub there : to (back k) ≡ k

module _ (f g to back : ℕ → ℕ) (M K : ℕ) (bits : (m : ℕ) → f m < 2) (lands : (m : ℕ) → m < M → f m ≡ 1 → Lands g to back K m) where
  -- 1 where m is marked and goes to k
  abbrev goes : ℕ → ℕ → ℕ
  goes m k = cond (eqb (to m) k) (f m) 0

  goes-not : (m k : ℕ) → to m ≢ k → goes m k ≡ 0
  goes-not m k h = rw (ne_eqb (to m) k h)

  goes_to : (m k : ℕ) → to m ≡ k → goes m k ≡ f m
  goes_to m k e = rw (eq-eqb (to m) k e)

  row : (m : ℕ) → m < M → sum (goes m) K ≡ f m
  row m h = pick (ℕ_discrete (f m) 1)
    where
      pick : Dec (f m ≡ 1) → sum (goes m) K ≡ f m
      pick (yes e) = sum-single (goes m) K (to m) (lands m h e).small (λ k l n. goes-not m k (λ q. n (sym q))) ∙ goes_to m (to m) refl
      pick (no n) = let z : f m ≡ 0 = omega (arith, bits m) in sum-zero (goes m) K (λ k l. nought k z (ℕ_discrete (to m) k)) ∙ sym z
        where
          nought : (k : ℕ) → f m ≡ 0 → Dec (to m ≡ k) → goes m k ≡ 0
          nought k z (yes q) = goes_to m k q ∙ z
          nought k z (no q) = goes-not m k q

  column : ℕ → ℕ
  column k = sum (λ m. goes m k) M

  met? : (k : ℕ) → Dec (Met f to back M k)
  met? k = pick (dec_lt (back k) M) (ℕ_discrete (f (back k)) 1) (ℕ_discrete (to (back k)) k)
    where
      pick : Dec (back k < M) → Dec (f (back k) ≡ 1) → Dec (to (back k) ≡ k) → Dec (Met f to back M k)
      pick (yes a) (yes b) (yes c) = yes record { small = a; marked = b; there = c }
      pick (no a) b c = no (λ w. a w.small)
      pick (yes a) (no b) c = no (λ w. b w.marked)
      pick (yes a) (yes b) (no c) = no (λ w. c w.there)

  met-one : (k : ℕ) → Met f to back M k → column k ≡ 1
  unfolding column
  met-one k w = sum-single (λ m. goes m k) M (back k) w.small (λ m l n. other m l n (ℕ_discrete (to m) k) (ℕ_discrete (f m) 1)) ∙ goes_to (back k) k w.there ∙ w.marked
    where
      other : (m : ℕ) → m < M → m ≢ back k → Dec (to m ≡ k) → Dec (f m ≡ 1) → goes m k ≡ 0
      other m l n (no q) d = goes-not m k q
      other m l n (yes q) (no d) = goes_to m k q ∙ omega (arith, bits m)
      other m l n (yes q) (yes d) = absurd (n (sym (lands m l d).home ∙ ap back q))

  not-met : (k : ℕ) → (Met f to back M k → ⊥) → column k ≡ 0
  unfolding column
  not-met k h = sum-zero (λ m. goes m k) M (λ m l. other m l (ℕ_discrete (to m) k) (ℕ_discrete (f m) 1))
    where
      other : (m : ℕ) → m < M → Dec (to m ≡ k) → Dec (f m ≡ 1) → goes m k ≡ 0
      other m l (no q) d = goes-not m k q
      other m l (yes q) (no d) = goes_to m k q ∙ omega (arith, bits m)
      other m l (yes q) (yes d) =
          let e : back k ≡ m = ap back (sym q) ∙ (lands m l d).home in
          absurd (h record { small = subst (λ (i : ℕ). i < M) (sym e) l; marked = ap f e ∙ d; there = ap to e ∙ q })

  column-le : (k : ℕ) → column k ≤ g k
  column-le k = pick (met? k)
    where
      pick : Dec (Met f to back M k) → column k ≤ g k
      pick (yes w) =
          let a : g k ≡ 1 = ap g (sym w.there) ∙ (lands (back k) w.small w.marked).marked in
          omega (arith, met-one k w)
      pick (no h) = omega (arith, not-met k h)

  by-columns : sum f M ≡ sum column K
  unfolding column
  by-columns = sym (sum_same f (λ m. sum (goes m) K) M row) ∙ sum-swap goes M K

  pub at_most : sum f M ≤ sum g K
  at_most = omega (arith, by-columns, below-le column g K column-le)

  pub all-met : sum f M ≡ sum g K → (k : ℕ) → k < K → g k ≡ 1 → Met f to back M k
  all-met e k l m = pick (met? k)
    where
      pick : Dec (Met f to back M k) → Met f to back M k
      pick (yes w) = w
      pick (no h) = let t : column k ≡ g k = sum-tight column g K column-le (sym by-columns ∙ e) k l in absurd (omega (arith, not-met k h))

-- rows of 256 places, one after the other, each summed for itself
module _ (F : ℕ → ℕ → ℕ) where
  sum_row : (n r : ℕ) → r ≤ 256 → sum (λ k. F (k / 256) (k % 256)) (n * 256 + r) ≡ sum (λ k. F (k / 256) (k % 256)) (n * 256) + sum (F n) r
  unfolding sum
  sum_row n zero h = let e : n * 256 + 0 ≡ n * 256 = omega arith in ap (sum (λ k. F (k / 256) (k % 256))) e ∙ omega arith
  sum_row n (suc r) h =
      let q : (n * 256 + r) / 256 ≡ n = omega arith in
      let x : (n * 256 + r) % 256 ≡ r = omega arith in
      let a : F ((n * 256 + r) / 256) ((n * 256 + r) % 256) ≡ F n r = ap (λ (i : ℕ). F i ((n * 256 + r) % 256)) q ∙ ap (F n) x in
      let s : sum (λ k. F (k / 256) (k % 256)) (n * 256 + suc r) ≡ sum (λ k. F (k / 256) (k % 256)) (suc (n * 256 + r)) = ap (sum (λ k. F (k / 256) (k % 256))) (add-suc (n * 256) r) in
      omega (arith, s, sum_row n r (omega arith))

  pub sum_rows : (n : ℕ) → sum (λ k. F (k / 256) (k % 256)) (n * 256) ≡ sum (λ i. sum (F i) 256) n
  sum_rows zero = unfold sum in refl
  sum_rows (suc n) =
      let e : suc n * 256 ≡ n * 256 + 256 = omega arith in
      ap (sum (λ k. F (k / 256) (k % 256))) e ∙ omega (arith, sum_row n 256 (omega arith), sum_rows n, sum_step (λ i. sum (F i) 256) n)
