-- The search for the next set bit: `w & (MAX << m)` keeps the bits from m on, trailing zeros are the place of the lowest, and whole words are passed
-- while they are 0. Assumes nothing.
use mathlib.Core.Path.{◌≡◌, refl, sym, ap, ◌∙◌, subst}
use mathlib.Core.List.{List}
use Prim.Native.Nat.{ℕ, zero, suc, ◌+◌, ◌-◌, ◌*◌, ◌/◌, ◌%◌, ◌^◌, ◌≤◌, ◌<◌, suc-le-suc}
use native.Mathlib.Nat.{le_of_suc-le-suc, not-suc-le-zero, zero-lt-suc, pow-suc, div-one, mul-suc, mul_comm}
use native.Mathlib.Omega.{arith}
use native.Mathlib.Decide.{dec_lt}
use lib.Arith.{digits_mod}
use lib.Pow.{suc_ones, pow_pos, pow-lt, shl-shr, shr-shr, shr_mod}
use lib.Bits.{bit_and, and_high, shifted_half, shifted_even}
use lib.Count.{count_trailing_zeros, under}
use lib.ListN.{get_or, length}
use Rattle.region.specs.Bits.{word_bit, bit}
use Rattle.bitvector.specs.Maps.{Lowest, Least}
use Rattle.bitvector.proofs.WordLaws.{bit-suc, bit-zero}
use Rattle.bitvector.proofs.RankLaws.{bit-of, bit-out}

-- ---- trailing zeros: the place of the lowest set bit

pub trailing-bit : (k n : ℕ) → count_trailing_zeros k n < k → word_bit n (count_trailing_zeros k n) ≡ 1
unfolding count_trailing_zeros
trailing-bit zero n h = absurd (not-suc-le-zero h)
trailing-bit (suc k) n h = go (trailing-bit k (n / 2)) (n % 2) refl h
  where
    go : (count_trailing_zeros k (n / 2) < k → word_bit (n / 2) (count_trailing_zeros k (n / 2)) ≡ 1)
        → (d : ℕ) → n % 2 ≡ d → under d (count_trailing_zeros k (n / 2)) < suc k → word_bit n (under d (count_trailing_zeros k (n / 2))) ≡ 1
    go ih zero e l = bit-suc n (count_trailing_zeros k (n / 2)) ∙ ih (le_of_suc-le-suc l)
    go ih (suc d) e l = ap (λ (x : ℕ). x % 2) (div-one n) ∙ omega arith

pub trailing_below : (k n j : ℕ) → j < count_trailing_zeros k n → word_bit n j ≡ 0
unfolding count_trailing_zeros
trailing_below zero n j h = absurd (not-suc-le-zero h)
trailing_below (suc k) n j h = go (trailing_below k (n / 2)) (n % 2) refl j h
  where
    go : ((j : ℕ) → j < count_trailing_zeros k (n / 2) → word_bit (n / 2) j ≡ 0)
        → (d : ℕ) → n % 2 ≡ d → (j : ℕ) → j < under d (count_trailing_zeros k (n / 2)) → word_bit n j ≡ 0
    go ih zero e zero l = ap (λ (x : ℕ). x % 2) (div-one n) ∙ e
    go ih zero e (suc j) l = bit-suc n j ∙ ih j (le_of_suc-le-suc l)
    go ih (suc d) e j l = absurd (not-suc-le-zero l)

pub trailing_lt : (k n : ℕ) → 0 < n → n < 2 ^ k → count_trailing_zeros k n < k
unfolding count_trailing_zeros
trailing_lt zero n p h = absurd (omega arith)
trailing_lt (suc k) n p h = go (trailing_lt k (n / 2)) (n % 2) refl
  where
    go : (0 < n / 2 → n / 2 < 2 ^ k → count_trailing_zeros k (n / 2) < k) → (d : ℕ) → n % 2 ≡ d → under d (count_trailing_zeros k (n / 2)) < suc k
    go ih zero e = suc-le-suc (ih (omega arith) (omega (arith, pow-suc 2 k)))
    go ih (suc d) e = zero-lt-suc k

-- ---- `w & (u64::MAX << m)`: the bits from m on

wrap : (m q : ℕ) → q ≤ m → m * suc q ≡ q * suc m + (m - q)
wrap m q h = omega (arith, mul-suc m q, mul-suc q m, mul_comm m q)

max-shl : (m : ℕ) → m < 64 → ((2 ^ 64 - 1) * 2 ^ m) % 2 ^ 64 ≡ 2 ^ 64 - 2 ^ m
max-shl m h =
    ap (λ (x : ℕ). ((2 ^ 64 - 1) * x) % 2 ^ 64) (sym (suc_ones m))
    ∙ ap (λ (x : ℕ). x % 2 ^ 64) (wrap (2 ^ 64 - 1) (2 ^ m - 1) (omega (arith, pow-lt h)))
    ∙ digits_mod (2 ^ m - 1) (omega arith) ∙ omega (arith, pow_pos m, pow-lt h)

from-word : (w m : ℕ) → w < 2 ^ 64 → m < 64 → bit_and w (((2 ^ 64 - 1) * 2 ^ m) % 2 ^ 64) ≡ w / 2 ^ m * 2 ^ m
from-word w m hw h =
    let e : 64 ≡ (64 - m) + m = omega arith in
    ap (bit_and w) (max-shl m h ∙ ap (λ (x : ℕ). 2 ^ x - 2 ^ m) e) ∙ and_high w (64 - m) m
    ∙ ap (λ (x : ℕ). x * 2 ^ m) (shr_mod (64 - m) m (subst (λ (x : ℕ). w < 2 ^ x) e hw))

shifted-low : (x m b : ℕ) → b < m → word_bit (x * 2 ^ m) b ≡ 0
shifted-low x zero b h = absurd (not-suc-le-zero h)
shifted-low x (suc m) zero h = ap (λ (y : ℕ). y % 2) (div-one (x * 2 ^ suc m)) ∙ shifted_even x m
shifted-low x (suc m) (suc b) h = bit-suc (x * 2 ^ suc m) b ∙ ap (λ (y : ℕ). word_bit y b) (shifted_half x m) ∙ shifted-low x m b (le_of_suc-le-suc h)

kept_high : (w m d : ℕ) → word_bit (w / 2 ^ m * 2 ^ m) (m + d) ≡ word_bit w (m + d)
kept_high w m d =
    ap (λ (y : ℕ). y % 2) (sym (shr-shr (w / 2 ^ m * 2 ^ m) m d) ∙ ap (λ (y : ℕ). y / 2 ^ d) (shl-shr (w / 2 ^ m) m) ∙ shr-shr w m d)

from_low : (w m b : ℕ) → w < 2 ^ 64 → m < 64 → b < m → word_bit (bit_and w (((2 ^ 64 - 1) * 2 ^ m) % 2 ^ 64)) b ≡ 0
from_low w m b hw h l = ap (λ (x : ℕ). word_bit x b) (from-word w m hw h) ∙ shifted-low (w / 2 ^ m) m b l

from-high : (w m b : ℕ) → w < 2 ^ 64 → m < 64 → m ≤ b → word_bit (bit_and w (((2 ^ 64 - 1) * 2 ^ m) % 2 ^ 64)) b ≡ word_bit w b
from-high w m b hw h l =
    let e : b ≡ m + (b - m) = omega arith in
    ap (λ (x : ℕ). word_bit x b) (from-word w m hw h)
    ∙ subst (λ (x : ℕ). word_bit (w / 2 ^ m * 2 ^ m) x ≡ word_bit w x) (sym e) (kept_high w m (b - m))

-- ---- the search for the next set bit: at word k, with w that word's bits from `from` on

pub record Walk (s : List ℕ) (from k w : ℕ) : Type 0 where
  pub inside : k < length s
  pub past : from < k * 64 + 64
  pub none : (j : ℕ) → from ≤ j → j < k * 64 → bit s j ≡ 0
  pub same : (b : ℕ) → b < 64 → from ≤ k * 64 + b → word_bit w b ≡ word_bit (get_or s k 0) b
  pub low : (b : ℕ) → b < 64 → k * 64 + b < from → word_bit w b ≡ 0

-- where w's bits below b are 0, so are those of s from `from` to k * 64 + b
clear-to : {s : List ℕ} {from k w : ℕ} (b : ℕ) → Walk s from k w → b ≤ 64 → ((a : ℕ) → a < b → word_bit w a ≡ 0)
    → (j : ℕ) → from ≤ j → j < k * 64 + b → bit s j ≡ 0
clear-to {s} {from} {k} {w} b W l z j h u = go (dec_lt j (k * 64))
  where
    go : Dec (j < k * 64) → bit s j ≡ 0
    go (yes v) = W.none j h v
    go (no v) =
        let e : j ≡ k * 64 + (j - k * 64) = omega arith in
        ap (bit s) e ∙ bit-of s k (j - k * 64) (omega arith) ∙ sym (W.same (j - k * 64) (omega arith) (omega arith)) ∙ z (j - k * 64) (omega arith)

pub walk_start : (s : List ℕ) (from : ℕ) → from / 64 < length s → get_or s (from / 64) 0 < 2 ^ 64
    → Walk s from (from / 64) (bit_and (get_or s (from / 64) 0) (((2 ^ 64 - 1) * 2 ^ (from % 64)) % 2 ^ 64))
walk_start s from h hw = record {
  inside = h;
  past = omega arith;
  none = λ j a b. absurd (omega arith);
  same = λ b l a. from-high (get_or s (from / 64) 0) (from % 64) b hw (omega arith) (omega arith);
  low = λ b l a. from_low (get_or s (from / 64) 0) (from % 64) b hw (omega arith) (omega arith);
}

-- no bit is set from `from` to word k
pub record Passed (s : List ℕ) (from k : ℕ) : Type 0 where
  pub past : from < k * 64
  pub none : (j : ℕ) → from ≤ j → j < k * 64 → bit s j ≡ 0

-- a word that is passed has no bit from `from` on
pub walk-passed : {s : List ℕ} {from k w : ℕ} → Walk s from k w → w ≡ 0 → Passed s from (k + 1)
walk-passed {s} {from} {k} {w} W e = record {
  past = omega (arith, W.past);
  none = λ j a b. clear-to 64 W (omega arith) (λ x l. ap (λ (y : ℕ). word_bit y x) e ∙ bit-zero x) j a (omega arith);
}

pub walk-next : {s : List ℕ} {from k : ℕ} → Passed s from k → k < length s → Walk s from k (get_or s k 0)
walk-next {s} {from} {k} P h = record {
  inside = h;
  past = omega (arith, P.past);
  none = P.none;
  same = λ b l a. refl;
  low = λ b l a. absurd (omega (arith, P.past));
}

pub passed-all : {s : List ℕ} {from k : ℕ} → Passed s from k → length s ≤ k → (j : ℕ) → from ≤ j → bit s j ≡ 0
passed-all {s} {from} {k} P h j a = go (dec_lt j (k * 64))
  where
    go : Dec (j < k * 64) → bit s j ≡ 0
    go (yes v) = P.none j a v
    go (no v) = bit-out s j (omega arith)

pub walk-found : {s : List ℕ} {from k w t : ℕ} → Walk s from k w → Lowest w t → Least s from (k * 64 + t)
walk-found {s} {from} {k} {w} {t} W L = record {
  inside = omega (arith, W.inside, L.small);
  past = up;
  is_set = bit-of s k t L.small ∙ sym (W.same t L.small up) ∙ L.is_set;
  none = clear-to t W (omega (arith, L.small)) L.none;
}
  where
    up : from ≤ k * 64 + t
    up = go (dec_lt (k * 64 + t) from)
      where
        go : Dec (k * 64 + t < from) → from ≤ k * 64 + t
        go (yes v) = absurd (omega (arith, L.is_set, W.low t L.small v))
        go (no v) = omega arith
