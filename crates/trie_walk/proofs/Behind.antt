-- The set bits of words: the lowest comes first, a word with none adds nothing, and there are as many as the word has ones. Assumes nothing.
use mathlib.Core.Path.{◌≡◌, refl, sym, ap, ap₂, ◌∙◌}
use mathlib.Core.Logic.{◌≢◌}
use mathlib.Core.Bool.{cond}
use mathlib.Core.List.{List, [], ◌∷◌, ◌++◌, append_assoc, append-nil}
use Prim.Native.Nat.{ℕ, zero, suc, ◌+◌, ◌*◌, ◌/◌, ◌%◌, ◌^◌, ◌≤◌, ◌<◌}
use native.Mathlib.Omega.{arith}
use native.Mathlib.Decide.{ℕ_discrete}
use native.Mathlib.Nat.{add-zero, add-suc, suc-mul, mod-one, mod-eq_of_lt}
use lib.Dec.{eqb}
use lib.Count.{ones, ones_in}
use lib.ListN.{length, length-append}
use Rattle.lists.specs.Lists.{each}
use Rattle.lists.proofs.Same.{each_same}
use Rattle.region.specs.Bits.{word_bit, bit_at}
use Rattle.bitvector.specs.Maps.{Lowest}
use Rattle.bitvector.proofs.WordLaws.{bit-lt, bit-zero, ones-suc}
use Rattle.trie_walk.specs.Words.{behind, behind_all}

-- Lists by places

pub each_none : (f : ℕ → List ℕ) (n : ℕ) → ((i : ℕ) → i < n → f i ≡ []) → each f n ≡ []
unfolding each
each_none f zero h = refl
each_none f (suc n) h = ap₂ ◌++◌ (each_none f n (λ i l. h i (omega arith))) (h n (omega arith))

-- the first list that is not empty comes first, and where it is made empty the others are left
each_first : (f g : ℕ → List ℕ) (n k : ℕ) → k < n → ((i : ℕ) → i < k → f i ≡ []) → g k ≡ [] → ((i : ℕ) → i ≢ k → g i ≡ f i) → each f n ≡ f k ++ each g n
unfolding each
each_first f g zero k l z e o = absurd (omega arith)
each_first f g (suc n) k l z e o = pick (ℕ_discrete n k) (λ l'. each_first f g n k l' z e o)
  where
    pick : Dec (n ≡ k) → (k < n → each f n ≡ f k ++ each g n) → each f n ++ f n ≡ f k ++ (each g n ++ g n)
    pick (yes q) ih =
        ap (λ (xs : List ℕ). xs ++ f n) (each_none f n (λ i h. z i (omega arith))) ∙ ap f q
        ∙ sym (ap (λ (xs : List ℕ). f k ++ xs) (ap₂ ◌++◌ (each_none g n (λ i h. o i (λ j. omega arith) ∙ z i (omega arith))) (ap g q ∙ e)) ∙ append-nil (f k))
    pick (no ne) ih =
        ap₂ ◌++◌ (ih (omega arith)) (sym (o n ne)) ∙ append_assoc (f k) (each g n) (g n)

-- the first a lists, and the others
pub each_append : (f : ℕ → List ℕ) (a b : ℕ) → each f (a + b) ≡ each f a ++ each (λ i. f (a + i)) b
unfolding each
each_append f a zero = ap (each f) (add-zero a) ∙ sym (append-nil (each f a))
each_append f a (suc b) =
    ap (each f) (add-suc a b) ∙ ap (λ (xs : List ℕ). xs ++ f (a + b)) (each_append f a b) ∙ append_assoc (each f a) (each (λ i. f (a + i)) b) (f (a + b))

-- lists of 256 by places, one behind the other
pub each-each : (f : ℕ → ℕ → List ℕ) (m : ℕ) → each (λ i. each (f i) 256) m ≡ each (λ x. f (x / 256) (x % 256)) (m * 256)
unfolding each
each-each f zero = refl
each-each f (suc m) =
    let z : m * 256 + 256 ≡ suc m * 256 = omega arith in
    ap₂ ◌++◌ (each-each f m) (each_same (λ j. f ((m * 256 + j) / 256) ((m * 256 + j) % 256)) (f m) 256 (λ j l.
    let q : m ≡ (m * 256 + j) / 256 = omega arith in
    let r : j ≡ (m * 256 + j) % 256 = omega arith in
    ap₂ f q r))
    ∙ sym (each_append (λ x. f (x / 256) (x % 256)) (m * 256) 256) ∙ ap (each (λ x. f (x / 256) (x % 256))) z

pub each-few : (f : ℕ → List ℕ) (n k : ℕ) → ((i : ℕ) → length (f i) ≤ k) → length (each f n) ≤ n * k
unfolding each
each-few f zero k h = omega arith
each-few f (suc n) k h = let i : length (each f n) ≤ n * k = each-few f n k h in omega (arith, h n, length-append (each f n) (f n), suc-mul n k)

-- One word

-- the list that stands behind bit k
abbrev set-only : ℕ → (ℕ → List ℕ) → ℕ → List ℕ
set-only w g k = cond (eqb (word_bit w k) 1) (g k) []

not_set : (w : ℕ) (g : ℕ → List ℕ) (k : ℕ) → word_bit w k ≡ 0 → set-only w g k ≡ []
not_set w g k e = ap (λ (b : ℕ). cond (eqb b 1) (g k) []) e

pub behind-none : (g : ℕ → List ℕ) → behind 0 g ≡ []
unfolding behind
behind-none g = each_none (set-only 0 g) 64 (λ k l. not_set 0 g k (bit-zero k))

pub behind-same : (w : ℕ) (f g : ℕ → List ℕ) → ((k : ℕ) → k < 64 → g k ≡ f k) → behind w g ≡ behind w f
unfolding behind
behind-same w f g h = each_same (set-only w f) (set-only w g) 64 (λ k l. ap (λ (xs : List ℕ). cond (eqb (word_bit w k) 1) xs []) (h k l))

-- the lowest bit first, and then what is left without it
pub behind-first : (w k r : ℕ) (g : ℕ → List ℕ) → Lowest w k → word_bit r k ≡ 0 → ((j : ℕ) → j ≢ k → word_bit r j ≡ word_bit w j) → behind w g ≡ g k ++ behind r g
unfolding behind
behind-first w k r g L z o =
    each_first (set-only w g) (set-only r g) 64 k L.small (λ i l. not_set w g i (L.none i l)) (not_set r g k z)
    (λ j n. ap (λ (b : ℕ). cond (eqb b 1) (g j) []) (o j n))
    ∙ ap (λ (xs : List ℕ). xs ++ each (set-only r g) 64) (ap (λ (b : ℕ). cond (eqb b 1) (g k) []) L.is_set)

length-below : (w : ℕ) (f : ℕ → ℕ) (n : ℕ) → length (each (set-only w (λ k. f k ∷ [])) n) ≡ ones (w % 2 ^ n)
unfolding each ones ones_in
length-below w f zero = sym (ap ones (mod-one w))
length-below w f (suc n) =
    length-append (each (set-only w (λ k. f k ∷ [])) n) (set-only w (λ k. f k ∷ []) n)
    ∙ ap₂ ◌+◌ (length-below w f n) (one_bit (word_bit w n) (bit-lt w n)) ∙ omega (arith, ones-suc w n)
  where
    one_bit : (b : ℕ) → b < 2 → length (cond (eqb b 1) (f n ∷ []) []) ≡ b
    one_bit zero h = refl
    one_bit (suc zero) h = refl
    one_bit (suc (suc b)) h = absurd (omega arith)

-- as many as the word has ones
pub behind-length : (w : ℕ) (f : ℕ → ℕ) → w < 2 ^ 64 → length (behind w (λ k. f k ∷ [])) ≡ ones w
unfolding behind
behind-length w f h = length-below w f 64 ∙ ap ones (mod-eq_of_lt h)

-- Words behind each other

pub each-words : (ws : ℕ → ℕ) (g : ℕ → List ℕ) (e m : ℕ) → each (λ i. cond (eqb (bit_at ws (e * 64 + i)) 1) (g (e * 64 + i)) []) (m * 64) ≡ behind_all ws g e m
unfolding each behind
each-words ws g e zero = refl
each-words ws g e (suc m) =
    let z : suc m * 64 ≡ 64 + m * 64 = omega arith in
    ap (each F) z ∙ each_append F 64 (m * 64) ∙ ap₂ ◌++◌
    (each_same (set-only (ws e) (λ k. g (e * 64 + k))) F 64 (λ k l.
    let q : (e * 64 + k) / 64 ≡ e = omega arith in
    let r : (e * 64 + k) % 64 ≡ k = omega arith in
    ap₂ (λ (x y : ℕ). cond (eqb (word_bit (ws x) y) 1) (g (e * 64 + k)) []) q r))
    (each_same (λ i. H (suc e * 64 + i)) (λ i. F (64 + i)) (m * 64) (λ i l. let q : e * 64 + (64 + i) ≡ suc e * 64 + i = omega arith in ap H q) ∙ each-words ws g (suc e) m)
  where
    H : ℕ → List ℕ
    H x = cond (eqb (bit_at ws x) 1) (g x) []

    F : ℕ → List ℕ
    F i = H (e * 64 + i)
