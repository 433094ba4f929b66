-- Sums over the numbers below n, and counts. Assumes nothing.
use Prim.Native.Nat.{ℕ, zero, suc, ◌+◌, ◌≤◌, ◌<◌}
use mathlib.Core.Path.{◌≡◌, refl, sym, ap, ap₂, ◌∙◌}
use mathlib.Core.Logic.{◌≢◌}
use native.Mathlib.Omega.{arith}
use native.Mathlib.Decide.{ℕ_discrete, dec_lt}
use Rattle.lists.specs.Sums.{sum}

pub sum_same : (f g : ℕ → ℕ) (n : ℕ) → ((i : ℕ) → i < n → g i ≡ f i) → sum g n ≡ sum f n
unfolding sum
sum_same f g zero h = refl
sum_same f g (suc n) h = ap₂ ◌+◌ (h n (omega arith)) (sum_same f g n (λ i l. h i (omega arith)))

-- at one place one more
pub sum_more : (f g : ℕ → ℕ) (n k : ℕ) → k < n → g k ≡ suc (f k) → ((i : ℕ) → i < n → i ≢ k → g i ≡ f i) → sum g n ≡ suc (sum f n)
unfolding sum
sum_more f g zero k l e h = absurd (omega arith)
sum_more f g (suc n) k l e h = pick (ℕ_discrete n k) (λ l'. sum_more f g n k l' e (λ i q ne. h i (omega arith) ne))
  where
    pick : Dec (n ≡ k) → (k < n → sum g n ≡ suc (sum f n)) → g n + sum g n ≡ suc (f n + sum f n)
    pick (yes q) ih =
        let a : g n ≡ suc (f n) = ap g q ∙ e ∙ ap (λ i. suc (f i)) (sym q) in
        let b : sum g n ≡ sum f n = sum_same f g n (λ i z. h i (omega arith) (omega arith)) in omega arith
    pick (no ne) ih =
        let a : g n ≡ f n = h n (omega arith) ne in
        let b : sum g n ≡ suc (sum f n) = ih (omega arith) in omega arith

pub sum-le : (f : ℕ → ℕ) (n k : ℕ) → k < n → f k ≤ sum f n
unfolding sum
sum-le f zero k l = absurd (omega arith)
sum-le f (suc n) k l = pick (ℕ_discrete n k) (λ l'. sum-le f n k l')
  where
    pick : Dec (n ≡ k) → (k < n → f k ≤ sum f n) → f k ≤ f n + sum f n
    pick (yes q) ih = let a : f n ≡ f k = ap f q in omega arith
    pick (no ne) ih = let a : f k ≤ sum f n = ih (omega arith) in omega arith

pub sum-zero : (f : ℕ → ℕ) (n : ℕ) → ((i : ℕ) → i < n → f i ≡ 0) → sum f n ≡ 0
unfolding sum
sum-zero f zero h = refl
sum-zero f (suc n) h = let a : f n ≡ 0 = h n (omega arith) in let b : sum f n ≡ 0 = sum-zero f n (λ i l. h i (omega arith)) in omega arith

pub sum-add : (f g : ℕ → ℕ) (n : ℕ) → sum (λ i. f i + g i) n ≡ sum f n + sum g n
unfolding sum
sum-add f g zero = refl
sum-add f g (suc n) = let a : sum (λ i. f i + g i) n ≡ sum f n + sum g n = sum-add f g n in omega arith

pub sum-swap : (h : ℕ → ℕ → ℕ) (n m : ℕ) → sum (λ i. sum (h i) m) n ≡ sum (λ j. sum (λ i. h i j) n) m
unfolding sum
sum-swap h zero m = sym (sum-zero (λ j. 0) m (λ i l. refl))
sum-swap h (suc n) m = ap (λ z. sum (h n) m + z) (sum-swap h n m) ∙ sym (sum-add (h n) (λ j. sum (λ i. h i j) n) m)

-- all but one are 0
pub sum-single : (f : ℕ → ℕ) (n k : ℕ) → k < n → ((i : ℕ) → i < n → i ≢ k → f i ≡ 0) → sum f n ≡ f k
unfolding sum
sum-single f zero k l h = absurd (omega arith)
sum-single f (suc n) k l h = pick (ℕ_discrete n k) (λ l'. sum-single f n k l' (λ i q ne. h i (omega arith) ne))
  where
    pick : Dec (n ≡ k) → (k < n → sum f n ≡ f k) → f n + sum f n ≡ f k
    pick (yes q) ih =
        let a : f n ≡ f k = ap f q in
        let b : sum f n ≡ 0 = sum-zero f n (λ i z. h i (omega arith) (omega arith)) in omega arith
    pick (no ne) ih =
        let a : f n ≡ 0 = h n (omega arith) ne in
        let b : sum f n ≡ f k = ih (omega arith) in omega arith

-- a matrix with row sums f and column sums g
pub sum-match : (h : ℕ → ℕ → ℕ) (f g : ℕ → ℕ) (n m : ℕ) → ((i : ℕ) → i < n → sum (h i) m ≡ f i) → ((j : ℕ) → j < m → sum (λ i. h i j) n ≡ g j) → sum f n ≡ sum g m
sum-match h f g n m row col = sym (sum_same f (λ i. sum (h i) m) n row) ∙ sum-swap h n m ∙ sum_same g (λ j. sum (λ i. h i j) n) m col

-- Ranks: sums of 0 and 1

pub sum_mono : (f : ℕ → ℕ) (n m : ℕ) → n ≤ m → sum f n ≤ sum f m
unfolding sum
sum_mono f n zero h = let e : n ≡ 0 = omega arith in rw e (omega arith)
sum_mono f n (suc m) h = pick (ℕ_discrete n (suc m)) (λ l. sum_mono f n m l)
  where
    pick : Dec (n ≡ suc m) → (n ≤ m → sum f n ≤ sum f m) → sum f n ≤ f m + sum f m
    pick (yes e) ih = rw e (omega arith)
    pick (no ne) ih = let q : sum f n ≤ sum f m = ih (omega arith) in omega arith

-- a set place counts for those past it
pub sum_less : (f : ℕ → ℕ) (p n : ℕ) → p < n → f p ≡ 1 → sum f p < sum f n
unfolding sum
sum_less f p n h e = let q : sum f (suc p) ≤ sum f n = sum_mono f (suc p) n h in omega arith

-- the set place of rank r
pub record Nth (f : ℕ → ℕ) (n r : ℕ) : Type 0 where
  pub at : ℕ
  pub small : at < n
  pub is_set : f at ≡ 1
  pub rank : sum f at ≡ r

pub nth : (f : ℕ → ℕ) → ((i : ℕ) → f i < 2) → (n r : ℕ) → r < sum f n → Nth f n r
unfolding sum
nth f bits zero r h = absurd (omega arith)
nth f bits (suc n) r h = pick (dec_lt r (sum f n)) (λ l. nth f bits n r l)
  where
    pick : Dec (r < sum f n) → (r < sum f n → Nth f n r) → Nth f (suc n) r
    pick (yes l) ih = let q : Nth f n r = ih l in record { at = q.at; small = omega (arith, q.small); is_set = q.is_set; rank = q.rank }
    pick (no g) ih = let b : f n < 2 = bits n in record { at = n; small = omega arith; is_set = omega arith; rank = omega arith }
