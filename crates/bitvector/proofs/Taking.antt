-- The least byte taken out of four words: it is the lowest bit of the first word that is not 0. Assumes nothing.
use mathlib.Core.Path.{◌≡◌, refl, sym, ap, ◌∙◌}
use mathlib.Core.Logic.{◌≢◌}
use mathlib.Core.Bool.{cond}
use mathlib.Core.List.{List, [], ◌∷◌}
use Prim.Native.Nat.{ℕ, zero, suc, ◌+◌, ◌-◌, ◌*◌, ◌/◌, ◌%◌, ◌<◌}
use native.Mathlib.Omega.{arith}
use native.Mathlib.Decide.{ℕ_discrete, dec_lt}
use borrow.Author.Tests.{eq-eqb, ne_eqb}
use lib.Dec.{eqb}
use lib.ListN.{get_or, length}
use Rattle.region.specs.Bits.{word_bit, bit}
use Rattle.bitvector.specs.Maps.{MadeIn, Lowest, Least, Popped}
use Rattle.std.specs.Prelude.{Some}
use Rattle.bitvector.proofs.WordLaws.{bit-zero}
use Rattle.bitvector.proofs.RankLaws.{bit-of, bit-out}
use Rattle.bitvector.proofs.Four.{made-four}

-- a word that is 0 has no bit set
zero_word : (ws : List ℕ) (j : ℕ) → get_or ws (j / 64) 0 ≡ 0 → bit ws j ≡ 0
unfolding bit
zero_word ws j e = ap (λ (w : ℕ). word_bit w (j % 64)) e ∙ bit-zero (j % 64)

-- where the words before word q are 0, the least set bit is the lowest of word q
least-in : (ws : List ℕ) (q k : ℕ) → q < length ws → ((p : ℕ) → p < q → get_or ws p 0 ≡ 0) → Lowest (get_or ws q 0) k → Least ws 0 (q * 64 + k)
least-in ws q k h z L = record {
  inside = omega (arith, L.small);
  past = omega arith;
  is_set = bit-of ws q k L.small ∙ L.is_set;
  none = λ j l u. go j u (dec_lt j (q * 64));
}
  where
    go : (j : ℕ) → j < q * 64 + k → Dec (j < q * 64) → bit ws j ≡ 0
    go j u (yes v) = zero_word ws j (z (j / 64) (omega arith))
    go j u (no v) =
        let e : j ≡ q * 64 + (j - q * 64) = omega arith in
        ap (bit ws) e ∙ bit-of ws q (j - q * 64) (omega (arith, L.small)) ∙ L.none (j - q * 64) (omega arith)

-- word j, where bit k of word q is cleared and w' is word q without it
cleared-in : (ws : List ℕ) (q j k w' : ℕ) → k < 64 → word_bit w' k ≡ 0 → ((b : ℕ) → b ≢ k → word_bit w' b ≡ word_bit (get_or ws q 0) b)
    → MadeIn (get_or ws j 0) j (q * 64 + k) 0 (cond (eqb q j) w' (get_or ws j 0))
cleared-in ws q j k w' l z f = go (ℕ_discrete q j)
  where
    over : (q * 64 + k) / 64 ≡ q
    over = omega arith

    left : (q * 64 + k) % 64 ≡ k
    left = omega arith

    go : Dec (q ≡ j) → MadeIn (get_or ws j 0) j (q * 64 + k) 0 (cond (eqb q j) w' (get_or ws j 0))
    go (yes e) =
        rw (eq-eqb q j e) (record {
          here = λ _. ap (word_bit w') left ∙ z;
          other = λ _ b n. f b (λ g. n (g ∙ sym left)) ∙ ap (λ (x : ℕ). word_bit (get_or ws x 0) b) e;
          word = λ n. absurd (n (over ∙ e));
        })
    go (no n) =
        rw (ne_eqb q j n) (record { here = λ e. absurd (n (sym over ∙ e)); other = λ e. absurd (n (sym over ∙ e)); word = λ _. refl })

-- word q is the first that is not 0, k its lowest bit, and w' the word without it
pub popped : (ws : List ℕ) (q k w' : ℕ) → length ws ≡ 4 → q < 4 → ((p : ℕ) → p < q → get_or ws p 0 ≡ 0) → Lowest (get_or ws q 0) k
    → word_bit w' k ≡ 0 → ((b : ℕ) → b ≢ k → word_bit w' b ≡ word_bit (get_or ws q 0) b)
    → Popped ws (Some (q * 64 + k))
    (cond (eqb q 0) w' (get_or ws 0 0) ∷ cond (eqb q 1) w' (get_or ws 1 0) ∷ cond (eqb q 2) w' (get_or ws 2 0) ∷ cond (eqb q 3) w' (get_or ws 3 0) ∷ [])
popped ws q k w' len h z L g f = (
  least-in ws q k (omega arith) z L,
  made-four ws _ _ _ _ (q * 64 + k) 0 len (omega (arith, L.small))
      (cleared-in ws q 0 k w' L.small g f) (cleared-in ws q 1 k w' L.small g f) (cleared-in ws q 2 k w' L.small g f) (cleared-in ws q 3 k w' L.small g f),
)

-- four words that are 0 have no bit set
pub nothing_left : (ws : List ℕ) → length ws ≡ 4 → ((p : ℕ) → p < 4 → get_or ws p 0 ≡ 0) → (j : ℕ) → bit ws j ≡ 0
nothing_left ws len z j = go (dec_lt j 256)
  where
    go : Dec (j < 256) → bit ws j ≡ 0
    go (yes h) = zero_word ws j (z (j / 64) (omega arith))
    go (no h) = bit-out ws j (omega arith)

-- the words before a place are 0, one by one
module _ (ws : List ℕ) where
  pub zeros-1 : get_or ws 0 0 ≡ 0 → (p : ℕ) → p < 1 → get_or ws p 0 ≡ 0
  zeros-1 a zero h = a
  zeros-1 a (suc p) h = absurd (omega arith)

  pub zeros-2 : get_or ws 0 0 ≡ 0 → get_or ws 1 0 ≡ 0 → (p : ℕ) → p < 2 → get_or ws p 0 ≡ 0
  zeros-2 a b zero h = a
  zeros-2 a b (suc zero) h = b
  zeros-2 a b (suc (suc p)) h = absurd (omega arith)

  pub zeros-3 : get_or ws 0 0 ≡ 0 → get_or ws 1 0 ≡ 0 → get_or ws 2 0 ≡ 0 → (p : ℕ) → p < 3 → get_or ws p 0 ≡ 0
  zeros-3 a b c zero h = a
  zeros-3 a b c (suc zero) h = b
  zeros-3 a b c (suc (suc zero)) h = c
  zeros-3 a b c (suc (suc (suc p))) h = absurd (omega arith)

  pub zeros-4 : get_or ws 0 0 ≡ 0 → get_or ws 1 0 ≡ 0 → get_or ws 2 0 ≡ 0 → get_or ws 3 0 ≡ 0 → (p : ℕ) → p < 4 → get_or ws p 0 ≡ 0
  zeros-4 a b c d zero h = a
  zeros-4 a b c d (suc zero) h = b
  zeros-4 a b c d (suc (suc zero)) h = c
  zeros-4 a b c d (suc (suc (suc zero))) h = d
  zeros-4 a b c d (suc (suc (suc (suc p)))) h = absurd (omega arith)
