-- One word under shift and mask: each expression of src/word is followed bit by bit, by the laws of `&` and `|` at a place. Assumes nothing.
use mathlib.Core.Path.{◌≡◌, refl, sym, ap, ◌∙◌, subst}
use mathlib.Core.Logic.{◌≢◌}
use mathlib.Core.Bool.{not}
use Prim.Native.Nat.{ℕ, zero, suc, ◌+◌, ◌-◌, ◌*◌, ◌/◌, ◌%◌, ◌^◌, ◌≤◌, ◌<◌, suc-le-suc, min, max}
use native.Mathlib.Nat.{lt_of_le_of_lt, lt_of_lt_of_le, le_of_suc-le-suc, not-suc-le-zero, zero-lt-suc, min-le_left, min-eq_left, min-zero, max-le, max-eq_right, max-zero, mod-lt, pow-suc, zero-div, div-one, div-eq_of_lt, one-mul}
use native.Mathlib.Numerals.{one-add}
use native.Mathlib.Omega.{arith}
use native.Mathlib.Decide.{dec_lt}
use lib.Dec.{eqb, lit<}
use lib.Arith.{digits_mod}
use lib.Pow.{pow_pos, pow_mono, pow-lt, shl_exact, shl-shr, shr-shr, mod-pow-add}
use lib.Bits.{bit_and, bit_or, and_shr, or_shr, and_step, or_step, and_mask, and_le_l, shifted_half, shifted_even}
use lib.Count.{ones, ones_in, ones_cat}
use Rattle.region.specs.Bits.{word_bit}

-- ---- a bit

pub bit-lt : (w k : ℕ) → word_bit w k < 2
bit-lt w k = mod-lt (w / 2 ^ k) (zero-lt-suc 1)

pub bit-suc : (w k : ℕ) → word_bit w (suc k) ≡ word_bit (w / 2) k
bit-suc w k = ap (λ (x : ℕ). w / 2 ^ x % 2) (sym (one-add k)) ∙ ap (λ (x : ℕ). x % 2) (sym (shr-shr w 1 k))

pub bit-zero : (k : ℕ) → word_bit 0 k ≡ 0
bit-zero k = ap (λ (x : ℕ). x % 2) (zero-div (2 ^ k))

-- a word of 64 bits has no bit above them
high_zero : (w j : ℕ) → w < 2 ^ 64 → 64 ≤ j → word_bit w j ≡ 0
high_zero w j h l = ap (λ (x : ℕ). x % 2) (div-eq_of_lt (lt_of_lt_of_le h (pow_mono l)))

-- ---- `&`, `|`, `!` and `1 << k`, bit by bit

and-bit : (a b k : ℕ) → word_bit (bit_and a b) k ≡ min (word_bit a k) (word_bit b k)
and-bit a b k =
    ap (λ (x : ℕ). x % 2) (and_shr a b k ∙ and_step (a / 2 ^ k) (b / 2 ^ k))
    ∙ digits_mod (bit_and (a / 2 ^ k / 2) (b / 2 ^ k / 2)) (lt_of_le_of_lt (min-le_left (word_bit a k) (word_bit b k)) (bit-lt a k))

or-bit : (a b k : ℕ) → word_bit (bit_or a b) k ≡ max (word_bit a k) (word_bit b k)
or-bit a b k =
    ap (λ (x : ℕ). x % 2) (or_shr a b k ∙ or_step (a / 2 ^ k) (b / 2 ^ k))
    ∙ digits_mod (bit_or (a / 2 ^ k / 2) (b / 2 ^ k / 2)) (suc-le-suc (max-le (le_of_suc-le-suc (bit-lt a k)) (le_of_suc-le-suc (bit-lt b k))))

not-bit : (n x j : ℕ) → x < 2 ^ n → j < n → word_bit ((2 ^ n - 1) - x) j ≡ 1 - word_bit x j
not-bit zero x j h l = absurd (not-suc-le-zero l)
not-bit (suc n) x zero h l = simp div-one (omega (arith, pow-suc 2 n, pow_pos n))
not-bit (suc n) x (suc j) h l =
    let half : ((2 ^ suc n - 1) - x) / 2 ≡ (2 ^ n - 1) - x / 2 = omega (arith, pow-suc 2 n, pow_pos n) in
    let low : x / 2 < 2 ^ n = omega (arith, pow-suc 2 n, pow_pos n) in
    bit-suc ((2 ^ suc n - 1) - x) j ∙ ap (λ (y : ℕ). word_bit y j) half ∙ not-bit n (x / 2) j low (le_of_suc-le-suc l)
    ∙ ap (λ (y : ℕ). 1 - y) (sym (bit-suc x j))

pub shl_one : (k : ℕ) → k < 64 → (1 * 2 ^ k) % 2 ^ 64 ≡ 1 * 2 ^ k
shl_one k h = shl_exact {a = 1} 1 k 64 (lit< tt) (omega arith)

one-lt : (k : ℕ) → k < 64 → 1 * 2 ^ k < 2 ^ 64
one-lt k h = subst (λ (x : ℕ). x < 2 ^ 64) (sym (one-mul (2 ^ k))) (pow-lt h)

one_same : (k : ℕ) → word_bit (1 * 2 ^ k) k ≡ 1
one_same k = ap (λ (x : ℕ). x % 2) (shl-shr 1 k)

one-other : (k j : ℕ) → j ≢ k → word_bit (1 * 2 ^ k) j ≡ 0
one-other zero zero h = absurd (h refl)
one-other zero (suc j) h = bit-suc 1 j ∙ bit-zero j
one-other (suc k) zero h = ap (λ (x : ℕ). x % 2) (div-one (1 * 2 ^ suc k)) ∙ shifted_even 1 k
one-other (suc k) (suc j) h = bit-suc (1 * 2 ^ suc k) j ∙ ap (λ (x : ℕ). word_bit x j) (shifted_half 1 k) ∙ one-other k j (λ e. h (ap suc e))

-- ---- `(w >> k) & 1`

pub test_word : (w k : ℕ) → eqb (bit_and (w / 2 ^ k) 1) 1 ≡ eqb (word_bit w k) 1
test_word w k = ap (λ (x : ℕ). eqb x 1) (and_mask (w / 2 ^ k) 1)

-- a bit that is not 1 is 0
pub not-one : (b : ℕ) → b < 2 → not (eqb b 1) ≡ eqb b 0
not-one zero h = refl
not-one (suc zero) h = refl
not-one (suc (suc b)) h = absurd (omega arith)

-- ---- `w | (1 << k)`

pub set_here : (w k : ℕ) → k < 64 → word_bit (bit_or w ((1 * 2 ^ k) % 2 ^ 64)) k ≡ 1
set_here w k h =
    ap (λ (x : ℕ). word_bit (bit_or w x) k) (shl_one k h) ∙ or-bit w (1 * 2 ^ k) k ∙ ap (max (word_bit w k)) (one_same k)
    ∙ max-eq_right (le_of_suc-le-suc (bit-lt w k))

pub set_other : (w k : ℕ) → k < 64 → (j : ℕ) → j ≢ k → word_bit (bit_or w ((1 * 2 ^ k) % 2 ^ 64)) j ≡ word_bit w j
set_other w k h j n =
    ap (λ (x : ℕ). word_bit (bit_or w x) j) (shl_one k h) ∙ or-bit w (1 * 2 ^ k) j ∙ ap (max (word_bit w j)) (one-other k j n)
    ∙ max-zero (word_bit w j)

-- ---- `w & !(1 << k)`

mask-bit : (w k : ℕ) → k < 64 → (j : ℕ) → j < 64
    → word_bit (bit_and w ((2 ^ 64 - 1) - (1 * 2 ^ k) % 2 ^ 64)) j ≡ min (word_bit w j) (1 - word_bit (1 * 2 ^ k) j)
mask-bit w k h j l =
    ap (λ (x : ℕ). word_bit (bit_and w ((2 ^ 64 - 1) - x)) j) (shl_one k h) ∙ and-bit w ((2 ^ 64 - 1) - 1 * 2 ^ k) j
    ∙ ap (min (word_bit w j)) (not-bit 64 (1 * 2 ^ k) j (one-lt k h) l)

pub clear-here : (w k : ℕ) → k < 64 → word_bit (bit_and w ((2 ^ 64 - 1) - (1 * 2 ^ k) % 2 ^ 64)) k ≡ 0
clear-here w k h = mask-bit w k h k h ∙ ap (λ (x : ℕ). min (word_bit w k) (1 - x)) (one_same k) ∙ min-zero (word_bit w k)

pub clear-other : (w k : ℕ) → k < 64 → w < 2 ^ 64 → (j : ℕ) → j ≢ k
    → word_bit (bit_and w ((2 ^ 64 - 1) - (1 * 2 ^ k) % 2 ^ 64)) j ≡ word_bit w j
clear-other w k h hw j n = go (dec_lt j 64)
  where
    go : Dec (j < 64) → word_bit (bit_and w ((2 ^ 64 - 1) - (1 * 2 ^ k) % 2 ^ 64)) j ≡ word_bit w j
    go (yes l) =
        mask-bit w k h j l ∙ ap (λ (x : ℕ). min (word_bit w j) (1 - x)) (one-other k j n) ∙ min-eq_left (le_of_suc-le-suc (bit-lt w j))
    go (no l) =
        high_zero _ j (lt_of_le_of_lt (and_le_l w ((2 ^ 64 - 1) - (1 * 2 ^ k) % 2 ^ 64)) hw) (omega arith) ∙ sym (high_zero w j hw (omega arith))

-- ---- `w & (w - 1)`

-- one less differs in the lowest set bit and below it: there it is clear, and above it nothing changes
less-bit : (w k : ℕ) → word_bit w k ≡ 1 → ((b : ℕ) → b < k → word_bit w b ≡ 0) → (word_bit (w - 1) k ≡ 0) × ((j : ℕ) → k < j → word_bit (w - 1) j ≡ word_bit w j)
less-bit w zero e z =
    let odd : w % 2 ≡ 1 = ap (λ (x : ℕ). x % 2) (sym (div-one w)) ∙ e in
    let half : (w - 1) / 2 ≡ w / 2 = omega arith in
    (ap (λ (x : ℕ). x % 2) (div-one (w - 1)) ∙ omega arith, λ j h. above j h half)
  where
    above : (j : ℕ) → 0 < j → (w - 1) / 2 ≡ w / 2 → word_bit (w - 1) j ≡ word_bit w j
    above zero h half = absurd (omega arith)
    above (suc j) h half = bit-suc (w - 1) j ∙ ap (λ (x : ℕ). word_bit x j) half ∙ sym (bit-suc w j)
less-bit w (suc k) e z =
    let even : w % 2 ≡ 0 = ap (λ (x : ℕ). x % 2) (sym (div-one w)) ∙ z 0 (zero-lt-suc k) in
    let half : (w - 1) / 2 ≡ w / 2 - 1 = omega arith in
    let ih = less-bit (w / 2) k (sym (bit-suc w k) ∙ e) (λ b h. sym (bit-suc w b) ∙ z (suc b) (suc-le-suc h)) in
    (bit-suc (w - 1) k ∙ ap (λ (x : ℕ). word_bit x k) half ∙ ih.0, λ j h. above j h half ih.1)
  where
    above : (j : ℕ) → suc k < j → (w - 1) / 2 ≡ w / 2 - 1 → ((j : ℕ) → k < j → word_bit (w / 2 - 1) j ≡ word_bit (w / 2) j) → word_bit (w - 1) j ≡ word_bit w j
    above zero h half f = absurd (omega arith)
    above (suc j) h half f = bit-suc (w - 1) j ∙ ap (λ (x : ℕ). word_bit x j) half ∙ f j (le_of_suc-le-suc h) ∙ sym (bit-suc w j)

module _ (w k : ℕ) (one : word_bit w k ≡ 1) (none : (b : ℕ) → b < k → word_bit w b ≡ 0) where
  pub lowest-here : word_bit (bit_and w (w - 1)) k ≡ 0
  lowest-here = and-bit w (w - 1) k ∙ ap (min (word_bit w k)) (less-bit w k one none).0 ∙ min-zero (word_bit w k)

  pub lowest-other : (j : ℕ) → j ≢ k → word_bit (bit_and w (w - 1)) j ≡ word_bit w j
  lowest-other j n = go (dec_lt j k)
    where
      go : Dec (j < k) → word_bit (bit_and w (w - 1)) j ≡ word_bit w j
      go (yes h) = and-bit w (w - 1) j ∙ ap (λ (x : ℕ). min x (word_bit (w - 1) j)) (none j h) ∙ min-eq_left (omega arith) ∙ sym (none j h)
      go (no h) =
          let u : k < j = omega arith in
          and-bit w (w - 1) j ∙ ap (min (word_bit w j)) ((less-bit w k one none).1 j u) ∙ min-eq_left (omega arith)

-- ---- `count_ones(w & ((1 << k) - 1))`

pub below_word : (w k : ℕ) → k < 64 → bit_and w ((1 * 2 ^ k) % 2 ^ 64 - 1) ≡ w % 2 ^ k
below_word w k h = ap (λ (x : ℕ). bit_and w (x - 1)) (shl_one k h ∙ one-mul (2 ^ k)) ∙ and_mask w k

ones_bit : (b : ℕ) → b < 2 → ones b ≡ b
unfolding ones ones_in
ones_bit zero h = refl
ones_bit (suc zero) h = refl
ones_bit (suc (suc b)) h = absurd (omega arith)

-- one place more counts one bit more
pub ones-suc : (w k : ℕ) → ones (w % 2 ^ suc k) ≡ word_bit w k + ones (w % 2 ^ k)
ones-suc w k =
    ap (λ (x : ℕ). ones (w % 2 ^ x)) (sym (one-add k)) ∙ ap ones (mod-pow-add w 1 k)
    ∙ ones_cat k (word_bit w k) (w % 2 ^ k) (mod-lt w (pow_pos k)) ∙ ap (λ (x : ℕ). x + ones (w % 2 ^ k)) (ones_bit (word_bit w k) (bit-lt w k))
