-- Ranks: the count below a place goes word by word, and moves by one where one bit is made. Assumes nothing.
use mathlib.Core.Path.{◌≡◌, refl, sym, ap, ap₂, ◌∙◌}
use mathlib.Core.Logic.{◌≢◌}
use mathlib.Core.List.{List}
use Prim.Native.Nat.{ℕ, zero, suc, ◌+◌, ◌-◌, ◌*◌, ◌/◌, ◌%◌, ◌^◌, ◌≤◌, ◌<◌}
use native.Mathlib.Nat.{add-zero, add-suc, mod-one, mod-eq_of_lt}
use native.Mathlib.Numerals.{add-one}
use native.Mathlib.Omega.{arith}
use native.Mathlib.Decide.{ℕ_discrete, dec_lt}
use lib.ListN.{get_or, length, take, get_or-eq_default}
use lib.Count.{ones, ones_in}
use Rattle.std.proofs.Common.{get_or-take}
use Rattle.std.proofs.lemmas.List.{length-take-le}
use Rattle.lists.specs.Sums.{sum}
use Rattle.lists.proofs.Sums.{sum_same, sum_more}
use Rattle.region.specs.Bits.{word_bit, bit, rank}
use Rattle.bitvector.specs.Maps.{Made}
use Rattle.bitvector.proofs.WordLaws.{bit-lt, bit-zero, ones-suc}

-- ---- bits of a list of words

pub bit-small : (ws : List ℕ) (i : ℕ) → bit ws i < 2
unfolding bit
bit-small ws i = bit-lt (get_or ws (i / 64) 0) (i % 64)

-- bit b of word k
pub bit-of : (ws : List ℕ) (k b : ℕ) → b < 64 → bit ws (k * 64 + b) ≡ word_bit (get_or ws k 0) b
unfolding bit
bit-of ws k b h =
    let q : (k * 64 + b) / 64 ≡ k = omega arith in
    let r : (k * 64 + b) % 64 ≡ b = omega arith in
    ap₂ (λ (x y : ℕ). word_bit (get_or ws x 0) y) q r

-- no bit is set past the words
pub bit-out : (ws : List ℕ) (j : ℕ) → length ws * 64 ≤ j → bit ws j ≡ 0
unfolding bit
bit-out ws j h =
    let l : length ws ≤ j / 64 = omega arith in
    ap (λ (x : ℕ). word_bit x (j % 64)) (get_or-eq_default ws 0 l) ∙ bit-zero (j % 64)

-- a set bit lies inside the words
pub set-inside : (ws : List ℕ) (j : ℕ) → bit ws j ≡ 1 → j < length ws * 64
set-inside ws j e = go (dec_lt j (length ws * 64))
  where
    go : Dec (j < length ws * 64) → j < length ws * 64
    go (yes h) = h
    go (no h) = absurd (omega (arith, bit-out ws j (omega arith)))

-- ---- rank, word by word

pub rank-zero : (ws : List ℕ) → rank ws 0 ≡ 0
unfolding rank sum
rank-zero ws = refl

pub rank-suc : (ws : List ℕ) (i : ℕ) → rank ws (suc i) ≡ bit ws i + rank ws i
unfolding rank sum
rank-suc ws i = refl

-- at most every bit below i is set
pub rank-le : (ws : List ℕ) (i : ℕ) → rank ws i ≤ i
rank-le ws zero = omega (arith, rank-zero ws)
rank-le ws (suc i) = omega (arith, rank-suc ws i, rank-le ws i, bit-small ws i)

none_below : (w : ℕ) → ones (w % 2 ^ 0) ≡ 0
unfolding ones ones_in
none_below w = ap ones (mod-one w)

-- r places into word q
pub rank-part : (ws : List ℕ) (q r : ℕ) → r ≤ 64 → rank ws (q * 64 + r) ≡ rank ws (q * 64) + ones (get_or ws q 0 % 2 ^ r)
rank-part ws q zero h =
    let e : q * 64 + 0 ≡ q * 64 = omega arith in
    ap (rank ws) e ∙ omega (arith, none_below (get_or ws q 0))
rank-part ws q (suc r) h =
    let next : rank ws (q * 64 + suc r) ≡ rank ws (suc (q * 64 + r)) = ap (rank ws) (add-suc (q * 64) r) in
    omega (arith, next, rank-suc ws (q * 64 + r), bit-of ws q r (omega arith), rank-part ws q r (omega arith), ones-suc (get_or ws q 0) r)

-- a whole word
pub rank-word : (ws : List ℕ) (q : ℕ) → get_or ws q 0 < 2 ^ 64 → rank ws ((q + 1) * 64) ≡ rank ws (q * 64) + ones (get_or ws q 0)
rank-word ws q h =
    let e : (q + 1) * 64 ≡ q * 64 + 64 = omega arith in
    ap (rank ws) e ∙ rank-part ws q 64 (omega arith) ∙ ap (λ (x : ℕ). rank ws (q * 64) + ones x) (mod-eq_of_lt h)

-- whole words, and one masked word
pub rank-at : (ws : List ℕ) (i : ℕ) → rank ws i ≡ rank ws (i / 64 * 64) + ones (get_or ws (i / 64) 0 % 2 ^ (i % 64))
rank-at ws i =
    let e : i ≡ i / 64 * 64 + i % 64 = omega arith in
    ap (rank ws) e ∙ rank-part ws (i / 64) (i % 64) (omega arith)

-- the first q words alone have as many bits set as are below bit q * 64
pub rank-front : (ws : List ℕ) (q : ℕ) → q ≤ length ws → rank (take q ws) (length (take q ws) * 64) ≡ rank ws (q * 64)
unfolding rank bit
rank-front ws q l =
    let e : length (take q ws) ≡ q = length-take-le q ws l in
    ap (λ (n : ℕ). rank (take q ws) (n * 64)) e
    ∙ sum_same (bit ws) (bit (take q ws)) (q * 64) (λ i h. ap (λ (w : ℕ). word_bit w (i % 64)) (get_or-take q ws (i / 64) 0 (omega arith)))

-- the same where the word's number is known
pub rank-in : (ws : List ℕ) (i q : ℕ) → i / 64 ≡ q → rank ws i ≡ rank ws (q * 64) + ones (get_or ws q 0 % 2 ^ (i % 64))
rank-in ws i q e = rank-at ws i ∙ ap (λ (k : ℕ). rank ws (k * 64) + ones (get_or ws k 0 % 2 ^ (i % 64))) e

-- ---- rank over clear bits, and past the next set one

-- over bits that are 0 the count stays
rank-none : (ws : List ℕ) (a d : ℕ) → ((j : ℕ) → a ≤ j → j < a + d → bit ws j ≡ 0) → rank ws (a + d) ≡ rank ws a
rank-none ws a zero z = ap (rank ws) (add-zero a)
rank-none ws a (suc d) z =
    ap (rank ws) (add-suc a d)
    ∙ omega (arith, rank-suc ws (a + d), rank-none ws a d (λ j h l. z j h (omega arith)), z (a + d) (omega arith) (omega arith))

pub rank-clear : (ws : List ℕ) (a b : ℕ) → a ≤ b → ((j : ℕ) → a ≤ j → j < b → bit ws j ≡ 0) → rank ws b ≡ rank ws a
rank-clear ws a b h z =
    let e : b ≡ a + (b - a) = omega arith in
    ap (rank ws) e ∙ rank-none ws a (b - a) (λ j l u. z j l (omega arith))

-- past the next set bit it is one more
pub rank-next : (ws : List ℕ) (a i : ℕ) → a ≤ i → bit ws i ≡ 1 → ((j : ℕ) → a ≤ j → j < i → bit ws j ≡ 0) → rank ws (i + 1) ≡ rank ws a + 1
rank-next ws a i h e z = ap (rank ws) (add-one i) ∙ omega (arith, rank-suc ws i, rank-clear ws a i h z)

-- where nothing is counted, no bit is set
pub rank-none-set : (ws : List ℕ) (n : ℕ) → rank ws n ≡ 0 → (j : ℕ) → j < n → bit ws j ≡ 0
rank-none-set ws zero e j l = absurd (omega arith)
rank-none-set ws (suc n) e j l = go (dec_lt j n) (rank-none-set ws n (omega (arith, rank-suc ws n)))
  where
    go : Dec (j < n) → ((j : ℕ) → j < n → bit ws j ≡ 0) → bit ws j ≡ 0
    go (yes h) f = f j h
    go (no h) f =
        let q : j ≡ n = omega arith in
        ap (bit ws) q ∙ omega (arith, rank-suc ws n)

-- a bit that is set, of the first n
pub record SetBelow (ws : List ℕ) (n : ℕ) : Type 0 where
  pub at : ℕ
  pub small : at < n
  pub is_set : bit ws at ≡ 1

-- where something is counted, some bit is set
pub rank-some-set : (ws : List ℕ) (n : ℕ) → rank ws n ≢ 0 → SetBelow ws n
rank-some-set ws zero ne = absurd (ne (rank-zero ws))
rank-some-set ws (suc n) ne = go (ℕ_discrete (rank ws n) 0) (rank-some-set ws n)
  where
    go : Dec (rank ws n ≡ 0) → (rank ws n ≢ 0 → SetBelow ws n) → SetBelow ws (suc n)
    go (yes e) f =
        let some : bit ws n ≢ 0 = λ z. ne (omega (arith, rank-suc ws n)) in
        record { at = n; small = omega arith; is_set = omega (arith, bit-small ws n) }
    go (no e) f =
        let s = f e in
        record { at = s.at; small = omega (arith, s.small); is_set = s.is_set }

-- ---- rank after one bit is made

module _ {ws after : List ℕ} {i v : ℕ} (M : Made ws i v after) where
  -- up to the place nothing is counted otherwise
  pub rank-before : (j : ℕ) → j ≤ i → rank after j ≡ rank ws j
  unfolding rank
  rank-before j l = sum_same (bit ws) (bit after) j (λ x h. M.other x (λ e. omega arith))

  -- past it one more, where the bit was clear and is set
  pub rank-more : v ≡ 1 → bit ws i ≡ 0 → (j : ℕ) → i < j → rank after j ≡ suc (rank ws j)
  unfolding rank
  rank-more e z j l = sum_more (bit ws) (bit after) j i l (M.here ∙ omega arith) (λ x h n. M.other x n)

  -- past it one less, where the bit was set and is clear
  pub rank_less : v ≡ 0 → bit ws i ≡ 1 → (j : ℕ) → i < j → rank ws j ≡ suc (rank after j)
  unfolding rank
  rank_less e z j l = sum_more (bit after) (bit ws) j i l (z ∙ omega (arith, M.here)) (λ x h n. sym (M.other x n))
