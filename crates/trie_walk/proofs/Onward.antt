-- The values of a list that are not below a bound, poured: lists behind each other, lists by places, and lists that lie below the bound altogether. Assumes nothing.
use mathlib.Core.Path.{◌≡◌, refl, sym, ap, ◌∙◌, subst}
use mathlib.Core.Bool.{Bool, true, false, cond}
use mathlib.Core.List.{List, [], ◌∷◌, ◌++◌}
use Prim.Native.Nat.{ℕ, zero, suc, ◌+◌, ◌-◌, ◌*◌, ◌/◌, ◌%◌, ◌^◌, ◌≤◌, ◌<◌}
use native.Mathlib.Omega.{arith}
use native.Mathlib.Decide.{dec_le}
use native.Mathlib.Nat.{mod-eq_of_lt, div-one, div-add-mod', mul_assoc}
use lib.Dec.{eqb, leb}
use lib.Pow.{shr-shr, shl-shr, pow-add}
use borrow.Author.Tests.{le-leb, lt-leb}
use Rattle.lists.specs.Lists.{each, keep}
use Rattle.lists.proofs.Same.{each_same}
use Rattle.region.specs.Bits.{word_bit}
use Rattle.region.specs.Nodes.{Nodes}
use Rattle.region.specs.Tries.{listed}
use Rattle.bitvector.proofs.WordLaws.{bit-zero}
use Rattle.trie_walk.specs.Pour.{Pour, poured, not_below}
use Rattle.trie_walk.specs.Words.{behind, numbers_in}
use Rattle.trie_walk.proofs.Pours.{poured-append}
use Rattle.trie_walk.proofs.Behind.{each_none}

-- what two lists keep, one after the other
keep_append : (t : ℕ → Bool) (xs ys : List ℕ) → keep t (xs ++ ys) ≡ keep t xs ++ keep t ys
keep_append t [] ys = refl
keep_append t (x ∷ xs) ys = go (t x) (keep_append t xs ys)
  where
    go : (b : Bool) → keep t (xs ++ ys) ≡ keep t xs ++ keep t ys → cond b (x ∷ keep t (xs ++ ys)) (keep t (xs ++ ys)) ≡ cond b (x ∷ keep t xs) (keep t xs) ++ keep t ys
    go true e = ap (λ (zs : List ℕ). x ∷ zs) e
    go false e = e

keep-each : (t : ℕ → Bool) (f : ℕ → List ℕ) (n : ℕ) → keep t (each f n) ≡ each (λ i. keep t (f i)) n
unfolding each
keep-each t f zero = refl
keep-each t f (suc n) = keep_append t (each f n) (f n) ∙ ap (λ (xs : List ℕ). xs ++ keep t (f n)) (keep-each t f n)

-- no value is below 0
pub all-kept : (xs : List ℕ) → not_below 0 xs ≡ xs
all-kept [] = refl
all-kept (x ∷ xs) = rw (le-leb 0 x (omega arith)) (ap (λ (zs : List ℕ). x ∷ zs) (all-kept xs))

-- two lists behind each other are poured one after the other
pub onward-append : (from : ℕ) (xs ys : List ℕ) (p : Pour) → poured (not_below from (xs ++ ys)) p ≡ poured (not_below from ys) (poured (not_below from xs) p)
onward-append from xs ys p = ap (λ (zs : List ℕ). poured zs p) (keep_append (λ s. leb from s) xs ys) ∙ poured-append (not_below from xs) (not_below from ys) p

-- a list that lies below the bound altogether may be left out
pub onward-past : (from : ℕ) (xs ys zs : List ℕ) → not_below from ys ≡ [] → not_below from (xs ++ (ys ++ zs)) ≡ not_below from (xs ++ zs)
onward-past from xs ys zs e =
    keep_append t xs (ys ++ zs)
    ∙ ap (λ (us : List ℕ). keep t xs ++ us) (keep_append t ys zs ∙ ap (λ (us : List ℕ). us ++ keep t zs) e)
    ∙ sym (keep_append t xs zs)
  where
    t : ℕ → Bool
    t s = leb from s

-- The numbers of a word

module _ (w r base from : ℕ) (low : (k : ℕ) → k < 64 → base + k < from → word_bit r k ≡ 0) (high : (k : ℕ) → k < 64 → from ≤ base + k → word_bit r k ≡ word_bit w k) where
  -- a word whose bits below the bound are cleared has the numbers that are not below it
  pub cleared : numbers_in r base ≡ not_below from (numbers_in w base)
  unfolding behind
  cleared = sym (keep-each (λ s. leb from s) old 64 ∙ each_same new (λ k. keep (λ s. leb from s) (old k)) 64 (λ k h. here k h (dec_le from (base + k))))
    where
      old : ℕ → List ℕ
      old k = cond (eqb (word_bit w k) 1) ((base + k) ∷ []) []

      new : ℕ → List ℕ
      new k = cond (eqb (word_bit r k) 1) ((base + k) ∷ []) []

      whole : (b : Bool) (x : ℕ) → leb from x ≡ true → keep (λ s. leb from s) (cond b (x ∷ []) []) ≡ cond b (x ∷ []) []
      whole true x e = rw e
      whole false x e = refl

      none : (b : Bool) (x : ℕ) → leb from x ≡ false → keep (λ s. leb from s) (cond b (x ∷ []) []) ≡ []
      none true x e = rw e
      none false x e = refl

      here : (k : ℕ) → k < 64 → Dec (from ≤ base + k) → keep (λ s. leb from s) (old k) ≡ new k
      here k h (yes l) = whole (eqb (word_bit w k) 1) (base + k) (le-leb from (base + k) l) ∙ ap (λ (b : ℕ). cond (eqb b 1) ((base + k) ∷ []) []) (sym (high k h l))
      here k h (no n) = none (eqb (word_bit w k) 1) (base + k) (lt-leb from (base + k) (omega arith)) ∙ ap (λ (b : ℕ). cond (eqb b 1) ((base + k) ∷ []) []) (sym (low k h (omega arith)))

-- all numbers of the word are not below the bound
pub word-whole : (w base from : ℕ) → from ≤ base → numbers_in w base ≡ not_below from (numbers_in w base)
word-whole w base from h = cleared w w base from (λ k l u. absurd (omega arith)) (λ k l u. refl)

-- all are below it
pub word_none : (w base from : ℕ) → 64 ≤ from - base → numbers_in 0 base ≡ not_below from (numbers_in w base)
word_none w base from h = cleared w 0 base from (λ k l u. bit-zero k) (λ k l u. absurd (omega arith))

shifted-low : (x m j : ℕ) → j < m → word_bit (x * 2 ^ m) j ≡ 0
shifted-low x m j h =
    let e : m ≡ (m - suc j) + 1 + j = omega arith in
    let a : x * 2 ^ m ≡ x * 2 ^ (m - suc j) * 2 * 2 ^ j = ap (λ (z : ℕ). x * 2 ^ z) e ∙ ap (λ (z : ℕ). x * z) (pow-add 2 ((m - suc j) + 1) j ∙ ap (λ (z : ℕ). z * 2 ^ j) (pow-add 2 (m - suc j) 1)) ∙ omega (arith, mul_assoc x (2 ^ (m - suc j) * 2) (2 ^ j), mul_assoc x (2 ^ (m - suc j)) 2) in
    ap (λ (z : ℕ). z / 2 ^ j % 2) a ∙ ap (λ (z : ℕ). z % 2) (shl-shr (x * 2 ^ (m - suc j) * 2) j) ∙ omega arith

shifted-high : (w m d : ℕ) → word_bit (w / 2 ^ m * 2 ^ m) (m + d) ≡ word_bit w (m + d)
shifted-high w m d =
    ap (λ (y : ℕ). y % 2) (sym (shr-shr (w / 2 ^ m * 2 ^ m) m d) ∙ ap (λ (y : ℕ). y / 2 ^ d) (shl-shr (w / 2 ^ m) m) ∙ shr-shr w m d)

-- the bits below the bound are shifted out, and the others back to their places
pub word_some : (w base from : ℕ) → w < 2 ^ 64 → base < from → numbers_in ((w / 2 ^ (from - base) * 2 ^ (from - base)) % 2 ^ 64) base ≡ not_below from (numbers_in w base)
word_some w base from hw h =
    cleared w ((w / 2 ^ k * 2 ^ k) % 2 ^ 64) base from
    (λ j l u. ap (λ (z : ℕ). word_bit z j) whole ∙ shifted-low (w / 2 ^ k) k j (omega arith))
    (λ j l u. let e : j ≡ k + (j - k) = omega arith in ap (λ (z : ℕ). word_bit z j) whole ∙ subst (λ (z : ℕ). word_bit (w / 2 ^ k * 2 ^ k) z ≡ word_bit w z) (sym e) (shifted-high w k (j - k)))
  where
    k : ℕ
    k = from - base

    whole : (w / 2 ^ k * 2 ^ k) % 2 ^ 64 ≡ w / 2 ^ k * 2 ^ k
    whole = mod-eq_of_lt (omega (arith, div-add-mod' w (2 ^ k)))

-- Subtrees

-- where the leading bytes are below those of the bound, so are all suffixes behind them
pub listed-past : (from : ℕ) (v : Nodes) (d n q : ℕ) → q < from / 2 ^ (8 * d) → not_below from (listed v d n q) ≡ []
unfolding listed
listed-past from v zero n q h = rw (lt-leb from q (subst (λ (z : ℕ). q < z) (div-one from) h))
listed-past from v (suc d) n q h =
    keep-each (λ s. leb from s) f 256
    ∙ each_none (λ x. keep (λ s. leb from s) (f x)) 256 (λ x l. if-set (eqb (v.bit n x) 1) x (listed-past from v d (v.child n x) (q * 256 + x) (deep x l)))
  where
    f : ℕ → List ℕ
    f x = cond (eqb (v.bit n x) 1) (listed v d (v.child n x) (q * 256 + x)) []

    deep : (x : ℕ) → x < 256 → q * 256 + x < from / 2 ^ (8 * d)
    deep x l =
        let z : 8 * suc d ≡ 8 * d + 8 = omega arith in
        let e : from / 2 ^ (8 * suc d) ≡ from / 2 ^ (8 * d) / 256 = ap (λ (k : ℕ). from / 2 ^ k) z ∙ sym (shr-shr from (8 * d) 8) in
        omega arith

    if-set : (b : Bool) (x : ℕ) → keep (λ s. leb from s) (listed v d (v.child n x) (q * 256 + x)) ≡ [] → keep (λ s. leb from s) (cond b (listed v d (v.child n x) (q * 256 + x)) []) ≡ []
    if-set true x e = e
    if-set false x e = refl
